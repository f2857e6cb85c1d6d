-- The sections in a buffer that they fit, handed over; and what is answered then.
use mathlib.Core.Path.{◌≡◌, sym, ap, ◌∙◌}
use mathlib.Core.List.{List}
use Prim.Native.Nat.{ℕ, ◌≤◌}
use native.Mathlib.Nat.{zero-add}
use native.Mathlib.Omega.{arith}
use lib.ListN.{length}
use Rattle.layout.specs.Step.{Step}
use Rattle.std.specs.Prelude.{Ok, Err}
use Rattle.grammar.specs.Layout.{Bytes}
use Rattle.grammar.specs.Laws.Layout.Read.{read}
use Rattle.grammar.specs.Laws.Layout.Check as reads
use Rattle.layout.specs.Reads.{forget, chain}
use Rattle.store.specs.Written.{Written}
use Rattle.store.specs.Check.{place_of, check}
use Rattle.store.specs.Fields.{bytes_in}
use Rattle.store.specs.Puts.{PutsTo}
use Rattle.store.specs.Deliver.{output, answer, DeliversTo}
use Rattle.store.specs.Laws.Deliver.{delivered_answer, delivered_output}
use Rattle.look.specs.declared.Look.{Look}
use Rattle.look.specs.Read.{Answer}
use Rattle.look.specs.Look.{TableLook}
use Rattle.look.specs.Answers.{outcome, expected}
use Rattle.look_write.specs.Laws.Theorems.{of_file}
use Rattle.look_rules.specs.StyleRule.{style_rule}
use Rattle.look_rules.proofs.Laws.Exactly.{kept_next}
use Rattle.styles.specs.declared.Styles.{Styles}
use Rattle.styles.specs.Styles.{styles}
use Rattle.sections_put.specs.Fields.{Sections, longest_sections, fields}
use Rattle.sections_put.specs.Names.{Each, Short, Named}
use Rattle.sections_put.specs.Laws.Long.{sections_most}
use Rattle.sections_put.specs.Laws.ReadBack.{sections_written}
use Rattle.look_sections.specs.Writing.{sections, sectioning, Stored, Wrote}
use Rattle.look_sections.specs.Laws.Names.{all_named, names_short}

pub stored : (x : Styles) (v : Written) {s b b' out out' : List ℕ} {r : Step} → Each Short x.areas → length b ≡ longest_sections
    → PutsTo Sections s (fields x) b (Ok 0) b' r → DeliversTo b' r out (answer v) out' → Stored x s out v out'
stored x v {s} {b} short long put gives =
    let f = fields x in
    let room : place_of (check Sections s f 0) ≤ length b = rw long (omega (arith, sections_most s x short 0)) in
    record {
      answers = delivered_answer Sections s f room put gives;
      holds = delivered_output Sections s f room put gives;
      fit = put.fit;
    }

module _ (s : List ℕ) (bs : Bytes s) (out : List ℕ) {a : Answer} (e : outcome a ≡ expected (read TableLook s 0)) where
  -- the look's own refusal
  pub not_read : {n p : ℕ} → a ≡ Err (n, p) → Wrote s out (Err (n, p)) out
  unfolding sectioning output
  not_read i = record {
    look = a;
    is_read = e;
    answers = rw i;
    holds = rw i;
    fit = λ x j n k. absurd (let z : ◌≡◌ {A = ℕ} 0 1 = cc in omega arith);
    bytes = bs;
  }

  module _ {y : Look} (i : a ≡ Ok y) {c : Step} (j : c ≡ forget (reads.check style_rule s 0)) where
    -- one of the rule
    pub not_styled : {n p : ℕ} → c ≡ Err (n, p) → Wrote s out (Err (n, p)) out
    unfolding sectioning chain output
    not_styled k = record {
      look = a;
      is_read = e;
      answers = rw (i, ← j, k);
      holds = rw (i, ← j, k);
      fit = λ x q n l. absurd (let z : ◌≡◌ {A = ℕ} 0 1 = cc in omega arith);
      bytes = bs;
    }

    module _ {p : ℕ} (k : c ≡ Ok p) where
      names : Each (Named s) (styles y).areas
      names = all_named s bs y (rw i at e) (kept_next bs (of_file s bs y (rw i at e)) (sym j ∙ k))

      pub short : Each Short (styles y).areas
      short = names_short names

      pub styled : {v : Written} {out' : List ℕ} → Stored (styles y) s out v out' → Wrote s out v out'
      unfolding sectioning sections chain
      styled {v} {out'} w =
          let l : check Sections s (fields (styles y)) 0 ≡ Ok (length (bytes_in Sections s (fields (styles y)))) = sections_written s bs (styles y) w.fit names 0 ∙ ap Ok (zero-add _) in
          record {
            look = a;
            is_read = e;
            answers = w.answers ∙ rw (l, i, ← j, k);
            holds = w.holds ∙ rw (l, i, ← j, k);
            fit = λ x q n m. let same : y ≡ x = cc in rw (← same) w.fit;
            bytes = bs;
          }
