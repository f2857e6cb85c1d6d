-- Under a leaf: by the places of the dimensions from its own on and of those after it, as the code has it, and by the coordinate.
use Rattle.std.specs.Prelude.{◌≡◌, refl, Bool, ℕ, suc, ◌+◌, ◌<◌, length, drop, eqb}
use mathlib.Core.List.{List, [], ◌∷◌, map}
use Rattle.grammar.specs.Layout.{Tree, size, All, all_none, all_more}
use Rattle.grammar.specs.Index.{product, coordinate}
use Rattle.grammar.specs.Laws.Index.Coordinates.{coordinate_is}
use Rattle.grammar.specs.Table.{Cell}
use Rattle.grammar.specs.Records.{cell_index}
use Rattle.total.specs.Total.{CellSays, with_cell, sums, cells_say}
use Rattle.total.specs.Laws.Words.{under_by}

-- tests that agree on the indexes of all cells have the same sums
pub sums_same : (test test' : ℕ → Bool) {cs : List CellSays} → All (λ c. test c.index ≡ test' c.index) cs → sums test cs ≡ sums test' cs
unfolding sums with_cell
sums_same test test' all_none = refl
sums_same test test' (all_more h hs) = rw (h, sums_same test test' hs)

-- the two tests agree below the product
pub under_agrees : (ns : List ℕ) (i leaf k : ℕ) → k < product ns → i < length ns
    → under_by (product (drop i ns)) (product (drop (suc i) ns)) leaf k ≡ eqb (coordinate ns i k) leaf
unfolding under_by
under_agrees ns i leaf k h l = rw (coordinate_is ns i k h l)

module _ (version : ℕ) where
  -- what holds of the indexes of the cells holds of what they say
  pub all_say : (P : ℕ → Type 0) (at : ℕ) (cs : List (Tree (Cell version))) → All P (map (cell_index version) cs) → All (λ c. P c.index) (cells_say version at cs)
  unfolding cells_say
  all_say P at [] h = all_none
  all_say P at (c ∷ cs) (all_more h hs) = all_more h (all_say P (at + size (Cell version) c) cs hs)
