-- Dimensions, axes and cells with document 01's tests, each at the place of the file where document 01 makes it ("Order"). The words of each row
-- of document 01's table, "Refusal numbers", stand at its test.
use Rattle.std.proofs.Math.Option.{none, some}
use Rattle.std.specs.Prelude.{List, [], ◌∷◌, ◌++◌, map, ℕ, zero, suc, ◌+◌, length, eqb, leb, ltb}
use Rattle.sizes.specs.Sizes.{most_nodes, category_depth, most_places, name_to_index}
use Rattle.sizes.specs.Basics.{pick}
use Rattle.grammar.specs.Layout.{◌▸◌, times, nothing, Tree, size}
use Rattle.grammar.specs.Conventions.{i, int32, int64}
use Rattle.grammar.specs.Rule.{Rule, plain, ◌▸▸◌, numbered, items, asked, tested, onto}
use Rattle.grammar.specs.Value.{Value, CellValue}
use Rattle.grammar.specs.Once.{fresh, first_bad}
use Rattle.grammar.specs.Index.{product}
use Rattle.grammar.specs.Once as once
use Rattle.grammar.specs.Table.{Leaf, KindOf, CategoryIn, DimProperties, Dimension, Dimensions, Axes, Cell, Cells, Category, minus_one}
use Rattle.grammar.specs.Records.{Head, front, children, sum, nodes, dim_nodes, dim_leaves, entry_index, cell_index, leaf_index_of, dim_own, dim_categories}

-- ---- leaves

-- the places in trees that follow each other, from the place `at` on
unfoldable pub leaves_all : {A : Type 0} → (A → ℕ) → (ℕ → A → List once.Leaf) → ℕ → List A → List once.Leaf
leaves_all size f at [] = []
leaves_all size f at (t ∷ ts) = f at t ++ leaves_all size f (at + size t) ts

-- ---- axes

-- an entry below d that none before it has.
-- 9 | "an entry is no dimension or is repeated" | "the entry", "as soon as read"
unfoldable pub entry_rule : ℕ → List (Tree int32) → Rule int32
entry_rule d before = tested (plain int32) 9 (λ t. pick (fresh d (map entry_index before) t.0) none (some 0))

-- the entries of the three groups, each dimension of the d once
abbrev pub three_rule : (d : ℕ) {l r c : ℕ} → Rule (times l int32 ▸ times r int32 ▸ times c int32)
three_rule d =
    items (entry_rule d)
    ▸▸ (λ ls. items (λ done. entry_rule d (done ++ onto [] ls)))
    ▸▸ (λ e. items (λ done. entry_rule d (done ++ onto (onto [] e.0) e.1)))

-- the three counts, and the entries: 12 bytes back from the first entry stands the first count.
-- 9 | "axis counts don't add up" | "first count"; "for the sum after all three counts"
abbrev pub counts_rule : ℕ → Rule Axes
counts_rule d = numbered (λ l. numbered (λ r. numbered (λ c. asked (eqb (l + r + c) d) 9 12 (three_rule d))))

module _ (version : ℕ) where
  -- ---- categories

  -- what follows the three bytes. `below` is asked for each category of a group, after those before it
  abbrev pub kind_rule : (d : ℕ) → (List (Tree (CategoryIn version d)) → Rule (CategoryIn version d)) → (k : ℕ) → Rule (KindOf (λ n. times n (CategoryIn version d)) k)
  kind_rule d below zero = plain Leaf
  kind_rule d below (suc k) = plain (int32 ▸ i minus_one) ▸▸ (λ _. numbered (λ n. items below))

  -- a category but for the number of nodes
  abbrev pub node_rule : (d : ℕ) → (List (Tree (CategoryIn version d)) → Rule (CategoryIn version d)) → Rule (CategoryIn version (suc d))
  node_rule d below = plain (Value version) ▸▸ (λ _. numbered (kind_rule d below))

  -- a category, before which there are `used`.
  -- 7 | "a limit passed" | "at the first byte of the 4,097th category", "even where no byte is left at that place"
  unfoldable pub category_rule : (d used : ℕ) → Rule (CategoryIn version d)
  category_rule zero used = plain nothing
  category_rule (suc d) used =
      asked (ltb used most_nodes) 7 0 (node_rule d (λ done. category_rule d (used + 1 + sum (nodes version d) done)))

  -- n categories, before which there are `used`
  abbrev pub categories_rule : (d used n : ℕ) → Rule (times n (CategoryIn version d))
  categories_rule d used n = items (λ done. category_rule d (used + sum (nodes version d) done))

  -- a leaf's index, and its place
  abbrev pub own_leaf : ℕ → Tree (Head version) → List once.Leaf
  own_leaf at (m, (zero, t)) = (leaf_index_of t, at + size (Value version) m + name_to_index) ∷ []
  own_leaf at (m, (suc k, t)) = []

  -- the leaves of a category at the place `at`, in file order
  unfoldable pub tree_leaves : (d at : ℕ) → Tree (CategoryIn version d) → List once.Leaf
  tree_leaves zero at t = []
  tree_leaves (suc d) at t = own_leaf at (front version d t) ++ leaves_all (size (CategoryIn version d)) (tree_leaves d) (at + size (Head version) (front version d t)) (children version d t)

  -- the leaves of a dimension, with their places from its start
  unfoldable pub leaves_of : Tree (Dimension version) → List once.Leaf
  leaves_of t = leaves_all (size (Category version)) (tree_leaves category_depth) (size ((Value version) ▸ DimProperties) (dim_own version t) + 4) (dim_categories version t)

  -- ---- dimensions

  -- a dimension, before which there are `used` categories.
  -- 8 | "leaf index not below n, or seen before in this dimension" | "that leaf index"; "tested when its dimension ends, first bad leaf in file order"
  unfoldable pub dimension_rule : ℕ → Rule (Dimension version)
  dimension_rule used =
      tested (plain ((Value version) ▸ DimProperties) ▸▸ (λ _. numbered (λ n. categories_rule category_depth used n)))
      8 (λ t. first_bad (length (leaves_of t)) [] (leaves_of t))

  unfoldable pub dimensions_rule : Rule (Dimensions version)
  dimensions_rule = numbered (λ n. items (λ done. dimension_rule (sum (dim_nodes version) done)))

  -- the exact product of all n
  abbrev pub places_of : List (Tree (Dimension version)) → ℕ
  places_of ts = product (map (λ t. length (dim_leaves version t)) ts)

  -- the axes of a table with the dimensions ts.
  -- 7 | "a limit passed" | "for the product, at the first axis count, before that field is read"
  unfoldable pub axes_rule : List (Tree (Dimension version)) → Rule Axes
  axes_rule ts = asked (leb (places_of ts) most_places) 7 0 (counts_rule (length ts))

  -- ---- cells

  -- a cell in a table of so many places.
  -- 10 | "cell index not below the product, or seen before" | "that index", "as soon as read"
  unfoldable pub cell_rule : ℕ → List (Tree (Cell version)) → Rule (Cell version)
  cell_rule places before =
      tested (plain int64) 10 (λ t. pick (fresh places (map (cell_index version) before) t.0) none (some 0)) ▸▸ (λ _. plain (CellValue version))

  unfoldable pub cells_rule : ℕ → Rule (Cells version)
  cells_rule places = numbered (λ n. items (cell_rule places))
