-- The leaf indexes seen so far are marked.
use mathlib.Core.Path.{◌≡◌, sym, ◌∙◌}
use mathlib.Core.Bool.{true, false, not, and-false}
use mathlib.Core.Option.{some}
use mathlib.Core.List.{List, []}
use Prim.Native.Nat.{ℕ, ◌+◌, ◌≤◌, ◌<◌}
use borrow.Author.Tests.{eq-eqb, ne_eqb, lt-ltb, le-ltb}
use lib.ListN.{get_or, set, replicate}
use Rattle.sizes.specs.Sizes.{most_nodes}
use Rattle.sizes.specs.Basics.{among}
use Rattle.grammar.specs.RecordWords.{is_leaf, leaf, leaves}
use Rattle.grammar.specs.Once.{fresh, first_bad}
use Rattle.once.specs.Laws.Marks.{Marks, no_marks, marked}
use Rattle.once.proofs.Walk.{Walking, at_start, fresh_leaf, stale_leaf}

abbrev pub Marking : List ℕ → ℕ → ℕ → ℕ → List ℕ → ℕ → ℕ → Type 0
Marking ws n first k marks i e = Walking (λ seen. Marks most_nodes marks seen) ws n first k i e

pub unmarked : (ws : List ℕ) (n first k : ℕ) → Marking ws n first k (replicate most_nodes 0) first (first + k)
unmarked ws n first k = at_start (no_marks most_nodes)

module _ {ws : List ℕ} {n first k : ℕ} {marks : List ℕ} {i e : ℕ} (w : Marking ws n first k marks i e) (h : i < e)
    (l : is_leaf ws i ≡ true) (x : ℕ) (q : x ≡ (leaf ws i).0) where
  pub past_leaf : x < n → x < most_nodes → get_or marks x 0 ≡ 0 → Marking ws n first k (set marks x 1) (i + 1) e
  unfolding fresh
  past_leaf a b z =
      let u : not (among x w.seen) ≡ true = sym (w.known.says x b) ∙ eq-eqb (get_or marks x 0) 0 z in
      fresh_leaf w h l x q (rw (lt-ltb x n a, u)) (marked most_nodes marks w.seen x w.known b)

  pub too_big : n ≤ x → some (leaf ws i).1 ≡ first_bad n [] (leaves ws first k)
  unfolding fresh
  too_big a = stale_leaf w h l x q (rw (le-ltb x n a))

  pub met_before : x < most_nodes → (get_or marks x 0 ≡ 0 → ⊥) → some (leaf ws i).1 ≡ first_bad n [] (leaves ws first k)
  unfolding fresh
  met_before b z =
      let u : not (among x w.seen) ≡ false = sym (w.known.says x b) ∙ ne_eqb (get_or marks x 0) 0 z in
      stale_leaf w h l x q (rw (u, and-false))
