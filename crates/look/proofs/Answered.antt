-- What a reading of the whole grammar answers.
use mathlib.Core.Path.{◌≡◌, refl, sym, ◌∙◌}
use mathlib.Core.List.{List}
use Prim.Native.Nat.{ℕ, ◌≤◌, ◌<◌}
use native.Mathlib.Omega.{arith}
use lib.ListN.{length, drop_of_length-le}
use lib.Seq.{drop-cons}
use Rattle.layout.specs.Step.{Step}
use Rattle.std.specs.Prelude.{Ok, Err}
use Rattle.grammar.specs.Layout.{Tree, Bytes}
use Rattle.grammar.specs.Laws.Layout.Read.{Got, got, no, read}
use Rattle.layout.specs.Reads.{forget, step, chain, ReadsTo}
use Rattle.store.specs.Fields.{placed}
use Rattle.store.specs.Laws.Refusals.{same_refusal}
use Rattle.fields.specs.Gives.{ShowsTo}
use Rattle.look.specs.declared.Look.{Look}
use Rattle.look.specs.Look.{TableLook}
use Rattle.look.specs.Values as values
use Rattle.look.specs.Answers.{look_of, accepted, refused, expected}

pub when_refused : {s : List ℕ} {r : Step} {n p : ℕ} → ReadsTo TableLook s (Ok 0) r → r ≡ Err (n, p) → refused n p ≡ expected (read TableLook s 0)
unfolding step chain expected
when_refused {s} {r} {n} {p} h e = go (read TableLook s 0) (sym h.is ∙ e)
  where
    go : (x : Got (Tree TableLook)) → forget x ≡ Err (n, p) → refused n p ≡ expected x
    go (got t rest q) i = absurd (let z : ◌≡◌ {A = ℕ} 0 1 = cc in omega arith)
    go (no m q) i = let a = same_refusal i in rw (a.0, a.1)

module _ {s : List ℕ} {r : Step} (x : Look) (g : ShowsTo TableLook (λ t at. look_of (placed TableLook t at)) s (Ok 0) r (values.fields x)) (bs : Bytes s) {p : ℕ} (e : r ≡ Ok p) where
  pub when_left : p < length s → refused 11 p ≡ expected (read TableLook s 0)
  unfolding expected
  when_left h =
      let f = g.found bs 0 p refl e in
      rw (f.reads, drop-cons s p 0 h)

  pub when_read : length s ≤ p → accepted (values.fields x) ≡ expected (read TableLook s 0)
  unfolding expected
  when_read h =
      let f = g.found bs 0 p refl e in
      rw (f.reads, drop_of_length-le s {i = p} h, f.is)
