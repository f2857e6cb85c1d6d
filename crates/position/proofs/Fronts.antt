-- The first of the entries, dimensions or n that a loop has left.
use mathlib.Core.Path.{◌≡◌, refl}
use mathlib.Core.List.{List, ◌∷◌}
use Prim.Native.Nat.{ℕ, zero, suc, ◌+◌, ◌-◌, ◌≤◌, ◌<◌}
use native.Mathlib.Numerals.{sub-one, add-one}
use native.Mathlib.Omega.{arith}
use lib.ListN.{length, take, drop}
use lib.Seq.{drop-cons}
use Rattle.grammar.specs.RecordWords.{word}
use Rattle.position.specs.Axes.{part}
use Rattle.position.specs.Laws.Table.{down}

-- ---- the first of a list's end

pub n_front : (ns : List ℕ) (i : ℕ) → i < length ns → drop i ns ≡ word ns i ∷ drop (i + 1) ns
unfolding word
n_front ns i h = rw add-one (drop-cons ns i 0 h)

-- the entry in front of those from i on
pub n_back : (ns : List ℕ) (i : ℕ) → 0 < i → i ≤ length ns → drop (i - 1) ns ≡ word ns (i - 1) ∷ drop i ns
n_back ns i h l = let q : i - 1 + 1 ≡ i = omega arith in rw q at (n_front ns (i - 1) (omega arith))

-- ---- entries of an order

-- those of an axis
pub part_slice : (order : List ℕ) (i c : ℕ) → i + c ≤ length order → take c (drop i order) ≡ part (word order) i c
unfolding part
part_slice order i zero h = refl
part_slice order i (suc c) h = rw (n_front order i (omega arith), part_slice order (i + 1) c (omega arith))

-- ---- dimensions

pub down_front : (j : ℕ) → 0 < j → down j ≡ (j - 1) ∷ down (j - 1)
unfolding down
down_front zero h = absurd (omega arith)
down_front (suc j) h = rw sub-one

pub down_more : (i : ℕ) → down (i + 1) ≡ i ∷ down i
unfolding down
down_more i = rw add-one
