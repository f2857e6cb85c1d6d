-- `look_sections` refuses exactly what Refused.antt says, by that number and at that place; and it writes exactly what is not refused.
use Rattle.std.specs.Prelude.{◌≡◌, ◌↔◌, Bool, List, ℕ, length}
use Rattle.std.proofs.Math.Path.{refl, sym, ap}
use Rattle.std.proofs.Common.{◌∙◌, arith}
use Rattle.std.proofs.Math.Bool.{true, false}
use Rattle.std.proofs.Math.Dec.{leb}
use borrow.Author.Tests.{leb-true, leb-false, le-leb, lt-leb}
use Rattle.sizes.specs.Basics.{pick}
use Rattle.layout.specs.Step.{Step}
use Rattle.std.specs.Prelude.{Ok, Err}
use Rattle.grammar.specs.Layout.{Tree, Bytes, Derivation}
use Rattle.grammar.specs.Rule.{Kept}
use Rattle.grammar.specs.Laws.Layout.Read.{read}
use Rattle.grammar.specs.Laws.Layout.Check.{check}
use Rattle.layout.specs.Reads.{forget, chain}
use Rattle.store.specs.Fields.{placed}
use Rattle.store.specs.Deliver.{ending}
use Rattle.store.specs.Laws.Refusals.{same_refusal}
use Rattle.look.specs.declared.Look.{Look}
use Rattle.look.specs.Read.{Answer}
use Rattle.look.specs.Look.{TableLook}
use Rattle.look.specs.Answers.{look_of, outcome, expected}
use Rattle.look.specs.Laws.RefusedExactly as reading
use Rattle.look_write.specs.Laws.Theorems.{of_file, fields_are, accepted_exactly, never_two}
use Rattle.look_rules.specs.StyleRule.{style_rule}
use Rattle.look_rules.proofs.Laws.Exactly as rule
use Rattle.styles.specs.Laws.ByFields.{same_styles}
use Rattle.look_sections.specs.Writing.{sections, sectioning}
use Rattle.look_sections.specs.Refused.{LookOf, Refused, own, style, too_short, Allowed}

module _ (s : List ℕ) (h : Bytes s) (room : ℕ) where
  data Answers : Step → Type 0 where
    can : (n : ℕ) (a : Allowed s room) → n ≡ length (sections a.says.look s) → Answers (Ok n)
    can_not : {n p : ℕ} → Refused s room n p → Answers (Err (n, p))

  -- of an accepted look
  module _ (y : Look) (i : outcome (Ok y) ≡ expected (read TableLook s 0)) where
    derived : Derivation TableLook s
    derived = of_file s h y i

    says : LookOf derived
    unfolding derived
    says = record { look = y; fields = fields_are s h y i }

    ends : Kept style_rule derived.tree → Answers (ending room (length (sections y s)))
    unfolding ending pick says
    ends k = go (leb (length (sections y s)) room) refl
      where
        go : (b : Bool) → leb (length (sections y s)) room ≡ b → Answers (pick b (Ok (length (sections y s))) (Err (15, 0)))
        go true e = can (length (sections y s)) record { derived = derived; says = says; kept = k; fits = leb-true _ _ e } refl
        go false e = can_not (too_short derived says k (leb-false _ _ e))

    accepted : Answers (sectioning (Ok y) s room)
    unfolding sectioning chain
    accepted = go (forget (check style_rule s 0)) refl
      where
        go : (c : Step) → forget (check style_rule s 0) ≡ c → Answers (chain c (λ _. ending room (length (sections y s))))
        go (Ok p) e = ends (rule.kept_next h derived e)
        go (Err (n, p)) e = can_not (style derived ((rule.refused_exactly s h n p).0 e))

    -- whatever says the same of the same bytes makes the same sections
    same_sections : (d : Derivation TableLook s) (x : LookOf d) → sections x.look s ≡ sections y s
    unfolding sections derived
    same_sections d x =
        let t : d.tree ≡ derived.tree = never_two s d derived in
        let e = x.fields ∙ ap (λ (t : Tree TableLook). look_of (placed TableLook t 0)) t ∙ sym (fields_are s h y i) in
        rw (same_styles x.look y e)

    passed : (d : Derivation TableLook s) → Kept style_rule d.tree → forget (check style_rule s 0) ≡ Ok (length s)
    passed d k = (rule.kept_exactly h d).1 k

  answers : (a : Answer) → outcome a ≡ expected (read TableLook s 0) → Answers (sectioning a s room)
  unfolding sectioning
  answers (Ok y) i = accepted y i
  answers (Err (n, p)) i = can_not (own ((reading.refused_exactly s h (Err (n, p)) i n p).0 refl))

  refused_so : {n p : ℕ} → Refused s room n p → (a : Answer) → outcome a ≡ expected (read TableLook s 0) → sectioning a s room ≡ Err (n, p)
  unfolding sectioning chain ending pick
  refused_so {n} {p} (own f) a i = rw ((reading.refused_exactly s h a i n p).1 f)
  refused_so {n} {p} (style d f) a i =
      let y = (accepted_exactly s h a i).1 d in
      rw (y.1, (rule.refused_exactly s h n p).1 f)
  refused_so (too_short d x k l) a i =
      let y = (accepted_exactly s h a i).1 d in
      let j = rw y.1 at i in
      let e = same_sections y.0 j d x in
      rw (y.1, passed y.0 j d k, lt-leb (length (sections y.0 s)) room (rw e at l))

  allowed_so : (c : Allowed s room) (a : Answer) → outcome a ≡ expected (read TableLook s 0) → sectioning a s room ≡ Ok (length (sections c.says.look s))
  unfolding sectioning chain ending pick
  allowed_so c a i =
      let y = (accepted_exactly s h a i).1 c.derived in
      let j = rw y.1 at i in
      let e = same_sections y.0 j c.derived c.says in
      rw (y.1, passed y.0 j c.derived c.kept, le-leb (length (sections y.0 s)) room (rw e at c.fits), e)

  -- whatever answer meets `read_look`'s contract
  module _ (a : Answer) (i : outcome a ≡ expected (read TableLook s 0)) where
    pub refused_exactly : (n p : ℕ) → (sectioning a s room ≡ Err (n, p)) ↔ Refused s room n p
    refused_exactly n p = (λ e. go (answers a i) e, λ f. refused_so f a i)
      where
        go : {c : Step} → Answers c → c ≡ Err (n, p) → Refused s room n p
        go (can m x j) e = absurd (let z : ◌≡◌ {A = ℕ} 0 1 = cc in omega arith)
        go (can_not {n = m} {p = q} u) e = let same : (m ≡ n) × (q ≡ p) = same_refusal e in rw (← same.0, ← same.1) u

    pub written_exactly : (n : ℕ) → (sectioning a s room ≡ Ok n) ↔ ((c : Allowed s room) × (n ≡ length (sections c.says.look s)))
    written_exactly n = (λ e. go (answers a i) e, λ c. allowed_so c.0 a i ∙ ap Ok (sym c.1))
      where
        go : {c : Step} → Answers c → c ≡ Ok n → (c : Allowed s room) × (n ≡ length (sections c.says.look s))
        go (can m x j) e = let same : m ≡ n = cc in (x, sym same ∙ j)
        go (can_not u) e = absurd (let z : ◌≡◌ {A = ℕ} 0 1 = cc in omega arith)
