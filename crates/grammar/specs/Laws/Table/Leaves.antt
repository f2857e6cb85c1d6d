-- The leaves that the node words give are those of the derivations, with the same indexes at the same places.
use Rattle.std.specs.Prelude.{◌≡◌, Bool, true, false}
use Rattle.std.proofs.Math.Path.{refl}
use Rattle.std.proofs.Common.{sym, ap}
use Rattle.std.proofs.Math.Option.{Option, none, some}
use mathlib.Core.List.{List, [], ◌∷◌}
use Prim.Native.Nat.{ℕ, zero, suc, ◌+◌, ◌≤◌}
use native.Mathlib.Omega.{arith}
use Rattle.std.proofs.Math.ListN.{length}
use Rattle.sizes.specs.Basics.{pick}
use Rattle.grammar.specs.RecordWords.{leaf, is_leaf, leaves}
use Rattle.grammar.specs.Once.{Leaf, fresh, first_bad}

-- ---- 1. the leaves of the words of k nodes

-- ---- 2. the words of derivations

-- ---- 4. the same from another place on

unfoldable pub further : ℕ → List Leaf → List Leaf
further a [] = []
further a (l ∷ ls) = (l.0, a + l.1) ∷ further a ls

pub further_length : (a : ℕ) (ls : List Leaf) → length (further a ls) ≡ length ls
unfolding further
further_length a [] = refl
further_length a (l ∷ ls) = ap suc (further_length a ls)

abbrev pub later : ℕ → Option ℕ → Option ℕ
later a none = none
later a (some p) = some (a + p)

later_pick : (a : ℕ) (b : Bool) (x y : Option ℕ) → later a (pick b x y) ≡ pick b (later a x) (later a y)
unfolding pick
later_pick a true x y = refl
later_pick a false x y = refl

pub further_bad : (a n : ℕ) (seen : List ℕ) (ls : List Leaf) → first_bad n seen (further a ls) ≡ later a (first_bad n seen ls)
unfolding first_bad further
further_bad a n seen [] = refl
further_bad a n seen (l ∷ ls) = rw (further_bad a n (l.0 ∷ seen) ls) (sym (later_pick a (fresh n seen l.0) (first_bad n (l.0 ∷ seen) ls) (some l.1)))

-- ---- 5. how many there are

more_leaves : (b : Bool) (l : Leaf) (ls : List Leaf) (k : ℕ) → length ls ≤ k → length (pick b (l ∷ ls) ls) ≤ suc k
unfolding pick
more_leaves true l ls k h = omega arith
more_leaves false l ls k h = omega arith

-- k nodes have at most k leaves
pub few_leaves : (ms : List ℕ) (i k : ℕ) → length (leaves ms i k) ≤ k
unfolding leaves
few_leaves ms i zero = omega arith
few_leaves ms i (suc k) = more_leaves (is_leaf ms i) (leaf ms i) (leaves ms (i + 1) k) k (few_leaves ms (i + 1) k)
