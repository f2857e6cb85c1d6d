-- What a derivation of a category says: its node records, in file order (document 01, "What the caller gets"), and its leaf indexes.
use mathlib.Core.List.{List, [], ◌∷◌, ◌++◌, flat_map}
use Rattle.std.specs.Prelude.{ℕ, zero, suc, ◌+◌, length}
use Rattle.sizes.specs.Sizes.{category_depth, no_parent}
use Rattle.grammar.specs.Layout.{Layout, empty, ◌▸◌, Tree, spell_all, size}
use Rattle.grammar.specs.Conventions.{int32}
use Rattle.grammar.specs.Once.{OnceEach}
use Rattle.grammar.specs.Value.{Value, CellValue}
use Rattle.grammar.specs.Table.{Leaf, GroupOf, CategoryOf, CategoryIn, DimProperties, Dimension, Dimensions, Axes, Cells, Cell, Category}

-- ---- the parts of a tree, by name

abbrev pub leaf_index_of : Tree Leaf → ℕ
leaf_index_of t = t.0.1.0

abbrev pub child_count : Tree (GroupOf (λ _. empty)) → ℕ
child_count t = t.1.0

-- the axis counts, and the entries: layers, then rows, then columns
abbrev pub axis_layers : Tree Axes → ℕ
axis_layers t = t.0

abbrev pub axis_rows : Tree Axes → ℕ
axis_rows t = t.1.0

abbrev pub axis_columns : Tree Axes → ℕ
axis_columns t = t.1.1.0

abbrev pub axis_entries : Tree Axes → List (Tree int32)
axis_entries t = let e = t.1.1.1 in e.0.0 ++ e.0.1 ++ e.1

abbrev pub entry_index : Tree int32 → ℕ
entry_index t = t.0

-- ---- nodes

unfoldable pub sum : {A : Type 0} → (A → ℕ) → List A → ℕ
sum f [] = 0
sum f (t ∷ ts) = f t + sum f ts

-- the words of trees that follow each other, from the node number `used` and the place `at` on
unfoldable pub words_all : {A : Type 0} → (A → ℕ) → (A → ℕ) → (ℕ → ℕ → A → List ℕ) → ℕ → ℕ → List A → List ℕ
words_all count size f used at [] = []
words_all count size f used at (t ∷ ts) = f used at t ++ words_all count size f (used + count t) (at + size t) ts

-- the words of a node: 0 leaf or 1 group; dimension; parent; place and length of the name; leaf index or children; and (02, T-07) how many
-- nodes it contains at any depth, itself included
abbrev pub node_record : ℕ → ℕ → ℕ → ℕ → ℕ → ℕ → ℕ → List ℕ
node_record kind dim par place long word many = kind ∷ dim ∷ par ∷ place ∷ long ∷ word ∷ many ∷ []

-- the words of a dimension's entry: place and length of its name, n, first node
abbrev pub dim_record : ℕ → ℕ → ℕ → ℕ → List ℕ
dim_record place long n first = place ∷ long ∷ n ∷ first ∷ []

-- ---- axes and cells

-- the words of a cell: index; place and length of the Value
abbrev pub cell_record : ℕ → ℕ → ℕ → List ℕ
cell_record index place long = index ∷ place ∷ long ∷ []

-- the words of records that follow each other, from the place `at` on
unfoldable pub rows_words : {A : Type 0} → (A → ℕ) → (ℕ → A → List ℕ) → ℕ → List A → List ℕ
rows_words size words at [] = []
rows_words size words at (t ∷ ts) = words at t ++ rows_words size words (at + size t) ts

module _ (version : ℕ) where
  -- a category without what is below it
  abbrev pub Head : Layout
  Head = CategoryOf version (λ _. empty)

  abbrev pub head_name : Tree Head → Tree (Value version)
  head_name t = t.0

  -- a dimension's name and properties, its name, and its categories
  abbrev pub dim_own : Tree (Dimension version) → Tree ((Value version) ▸ DimProperties)
  dim_own t = t.0

  abbrev pub dim_name : Tree (Dimension version) → Tree (Value version)
  dim_name t = t.0.0

  abbrev pub dim_categories : Tree (Dimension version) → List (Tree (Category version))
  dim_categories t = t.1.1

  abbrev pub dims_of : Tree (Dimensions version) → List (Tree (Dimension version))
  dims_of t = t.1

  abbrev pub cell_index : Tree (Cell version) → ℕ
  cell_index t = t.0.0

  abbrev pub cell_value : Tree (Cell version) → Tree (CellValue version)
  cell_value t = t.1

  abbrev pub cells_of : Tree (Cells version) → List (Tree (Cell version))
  cells_of t = t.1

  -- ---- a category's own part, and what is below it

  abbrev pub front : (d : ℕ) → Tree (CategoryIn version (suc d)) → Tree Head
  front d (m, (zero, t)) = (m, (zero, t))
  front d (m, (suc k, (t, (n, ts)))) = (m, (suc k, (t, (n, tt))))

  abbrev pub children : (d : ℕ) → Tree (CategoryIn version (suc d)) → List (Tree (CategoryIn version d))
  children d (m, (zero, t)) = []
  children d (m, (suc k, (t, (n, ts)))) = ts

  -- 0 leaf or 1 group
  abbrev pub kind_of : Tree Head → ℕ
  kind_of (m, (zero, t)) = 0
  kind_of (m, (suc k, t)) = 1

  -- the leaf's index, or the number of direct children
  abbrev pub word_of : Tree Head → ℕ
  word_of (m, (zero, t)) = leaf_index_of t
  word_of (m, (suc k, t)) = child_count t

  -- how many categories are directly below
  abbrev pub below_of : Tree Head → ℕ
  below_of (m, (zero, t)) = 0
  below_of (m, (suc k, t)) = child_count t

  -- the number of nodes, at any depth
  unfoldable pub nodes : (d : ℕ) → Tree (CategoryIn version d) → ℕ
  nodes zero t = 0
  nodes (suc d) t = 1 + sum (nodes d) (children d t)

  -- those of a category at the place `at` that contains so many nodes
  abbrev pub node_words_of : ℕ → ℕ → ℕ → ℕ → Tree Head → List ℕ
  node_words_of dim par at many h = node_record (kind_of h) dim par at (size (Value version) (head_name h)) (word_of h) many

  -- the records of a category at the place `at` whose node has the number `used`, in file order
  unfoldable pub tree_words : (d dim par used at : ℕ) → Tree (CategoryIn version d) → List ℕ
  tree_words zero dim par used at t = []
  tree_words (suc d) dim par used at t =
      node_words_of dim par at (nodes (suc d) t) (front d t)
      ++ words_all (nodes d) (size (CategoryIn version d)) (tree_words d dim used) (used + 1) (at + size Head (front d t)) (children d t)

  -- ---- leaves

  abbrev pub own_index : Tree Head → List ℕ
  own_index (m, (zero, t)) = leaf_index_of t ∷ []
  own_index (m, (suc k, t)) = []

  -- the leaf indexes of a category, in file order
  unfoldable pub leaf_indexes : (d : ℕ) → Tree (CategoryIn version d) → List ℕ
  leaf_indexes zero t = []
  leaf_indexes (suc d) t = own_index (front d t) ++ spell_all (leaf_indexes d) (children d t)

  -- ---- dimensions

  -- the number of nodes of a dimension
  unfoldable pub dim_nodes : Tree (Dimension version) → ℕ
  dim_nodes t = sum (nodes category_depth) (dim_categories t)

  -- its leaf indexes, in file order. n of a dimension is their number (document 01: its number of leaves at any depth)
  unfoldable pub dim_leaves : Tree (Dimension version) → List ℕ
  dim_leaves t = spell_all (leaf_indexes category_depth) (dim_categories t)

  -- the n leaves of a dimension have the indexes 0 to n-1, once each (document 01, our rule)
  abbrev pub LeavesOnce : Tree (Dimension version) → Type 0
  LeavesOnce t = OnceEach (length (dim_leaves t)) (dim_leaves t)

  -- the node records of dimension i at the place `at`, whose first node has the number `used`. A category of the dimension itself has no parent
  unfoldable pub dim_words : ℕ → ℕ → ℕ → Tree (Dimension version) → List ℕ
  dim_words i used at t =
      words_all (nodes category_depth) (size (Category version)) (tree_words category_depth i no_parent) used (at + size ((Value version) ▸ DimProperties) (dim_own t) + 4) (dim_categories t)

  unfoldable pub dim_entry : ℕ → ℕ → Tree (Dimension version) → List ℕ
  dim_entry used at t = dim_record at (size (Value version) (dim_name t)) (length (dim_leaves t)) used

  -- the same of dimensions that follow each other, from number i on
  unfoldable pub dims_words : ℕ → ℕ → ℕ → List (Tree (Dimension version)) → List ℕ
  dims_words i used at [] = []
  dims_words i used at (t ∷ ts) = dim_words i used at t ++ dims_words (i + 1) (used + dim_nodes t) (at + size (Dimension version) t) ts

  unfoldable pub dims_entries : ℕ → ℕ → List (Tree (Dimension version)) → List ℕ
  dims_entries used at [] = []
  dims_entries used at (t ∷ ts) = dim_entry used at t ++ dims_entries (used + dim_nodes t) (at + size (Dimension version) t) ts

  -- those of a cell at the place `at`: its index takes 8 bytes
  abbrev pub cell_words_of : ℕ → Tree (Cell version) → List ℕ
  cell_words_of at t = cell_record (cell_index t) (at + 8) (size (CellValue version) (cell_value t))

  -- ---- the Values that records point to, in file order

  -- the names of a category and of those below it
  unfoldable pub tree_names : (d : ℕ) → Tree (CategoryIn version d) → List (Tree (Value version))
  tree_names zero t = []
  tree_names (suc d) t = head_name (front d t) ∷ flat_map (tree_names d) (children d t)

  -- the names of a dimension's categories
  unfoldable pub category_names : Tree (Dimension version) → List (Tree (Value version))
  category_names t = flat_map (tree_names category_depth) (dim_categories t)
