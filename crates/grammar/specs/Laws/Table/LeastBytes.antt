-- How many bytes records take at least.
use Rattle.std.specs.Prelude.{◌≡◌, List, length}
use Rattle.std.proofs.Math.Path.{refl}
use Prim.Native.Nat.{ℕ, zero, suc, ◌+◌, ◌*◌, ◌≤◌}
use Rattle.std.proofs.Common.{mul-zero, mul-add, length-append}
use native.Mathlib.Omega.{arith}
use Rattle.grammar.specs.Layout.{Tree, spell, All, all_none, all_more, Valid, size}
use Rattle.grammar.specs.Laws.Layout.{digits_length}
use Rattle.grammar.specs.Laws.Layout.Least.{least, least_spelt}
use Rattle.grammar.specs.Value.{Value, ValueIn, CellValue}
use Rattle.grammar.specs.Table.{Leaf, CategoryIn, Cell}
use Rattle.grammar.specs.Records.{sum, nodes}
use Rattle.grammar.specs.Laws.Table.Lengths.{size_all}

-- a category node: a Value of a byte, three bytes, and what a leaf has after them
abbrev pub least_category : ℕ
least_category = 16

-- a cell: its index, and a Value of a byte
abbrev pub least_cell : ℕ
least_cell = 9

-- ---- trees that follow each other

-- c bytes or more for each that f counts, in each tree and so in all
sum_least : {A : Type 0} {P : A → Type 0} (c : ℕ) (f h : A → ℕ) → ((t : A) → P t → c * f t ≤ h t) → {ts : List A} → All P ts → c * sum f ts ≤ sum h ts
unfolding sum
sum_least c f h each all_none = omega (arith, mul-zero c)
sum_least c f h each (all_more {x} {xs} p ps) = rw (mul-add c (f x) (sum f xs)) (omega (arith, each x p, sum_least c f h each ps))

module _ (version : ℕ) where
  -- ---- categories

  -- a Value takes a byte or more
  value_bytes : (t : Tree (Value version)) → Valid (Value version) t → 1 ≤ size (Value version) t
  unfolding Value ValueIn least size
  value_bytes t v = least_spelt (Value version) t v

  pub category_bytes : (d : ℕ) (t : Tree (CategoryIn version d)) → Valid (CategoryIn version d) t → least_category * (nodes version) d t ≤ size (CategoryIn version d) t
  unfolding nodes sum least size spell
  category_bytes zero t v = absurd v
  category_bytes (suc d) (m, (zero, t)) v =
      let name = value_bytes m v.0 in
      let rest : 12 ≤ size Leaf t = least_spelt Leaf t v.1.2 in
      simp (length-append, digits_length) (omega arith)
  category_bytes (suc d) (m, (suc k, (t, (n, ts)))) v =
      let name = value_bytes m v.0 in
      let rest = sum_least least_category (nodes version d) (size (CategoryIn version d)) (category_bytes d) v.1.2.1.2.1 in
      let count : (nodes version) (suc d) (m, (suc k, (t, (n, ts)))) ≡ 1 + sum (nodes version d) ts = refl in
      rw count (simp (length-append, digits_length) (omega (arith, size_all (CategoryIn version d) ts)))

  pub categories_bytes : (d : ℕ) {ts : List (Tree (CategoryIn version d))} → All (Valid (CategoryIn version d)) ts → least_category * sum (nodes version d) ts ≤ sum (size (CategoryIn version d)) ts
  categories_bytes d vs = sum_least least_category (nodes version d) (size (CategoryIn version d)) (category_bytes d) vs

  -- ---- cells

  pub cell_bytes : (t : Tree (Cell version)) → Valid (Cell version) t → least_cell ≤ size (Cell version) t
  unfolding least CellValue size
  cell_bytes t v = least_spelt (Cell version) t v

  pub cells_bytes : {ts : List (Tree (Cell version))} → All (Valid (Cell version)) ts → least_cell * length ts ≤ sum (size (Cell version)) ts
  unfolding sum
  cells_bytes all_none = omega arith
  cells_bytes (all_more {x} {xs} v vs) = omega (arith, cell_bytes x v, cells_bytes vs)
