-- The grammar of the whole member: source document 003's productions for versions 1 and 3, with document 01's choices and sizes, and no
-- reader in it. Then what a derivation says: its dimensions, category nodes and cells, and what demand 3 asks of it.
use Rattle.std.specs.Prelude.{◌≡◌, Bool, true, false, ℕ, ◌+◌, ◌*◌, ◌≤◌, length}
use mathlib.Core.List.{List, [], ◌∷◌, ◌++◌, map, flat_map}
use Rattle.sizes.specs.Sizes.{member_bytes, most_nodes, most_places, node_words, cell_words}
use Rattle.grammar.specs.Layout.{little, a_version, Layout, number, ◌▸◌, Tree, spell, Valid, All, size}
use Rattle.grammar.specs.Value.{Value, CellValue}
use Rattle.grammar.specs.Sections.{HeaderStart, versions, Front}
use Rattle.grammar.specs.Once.{OnceEach}
use Rattle.grammar.specs.Index.{product}
use Rattle.grammar.specs.Table.{Dimension, Dimensions, Axes, Cell, Cells}
use Rattle.grammar.specs.Records.{dim_nodes, dim_leaves, LeavesOnce, dims_words, dims_entries, entry_index, cell_index, cell_words_of, rows_words, sum, dims_of, axis_layers, axis_rows, axis_columns, axis_entries, cells_of, dim_name, cell_value, category_names}

-- ---- the grammar

-- Table => Header Titles Footnotes Areas Borders PrintSettings TableSettings Formats Dimensions Axes Cells 01?
-- The Header's version decides what follows it; `Front` is the rest of the Header and the next seven; the 01? is `final`, below
abbrev pub Body : ℕ → Layout
Body version = Front version ▸ Dimensions version ▸ Axes ▸ Cells version

abbrev pub Member : Layout
Member = HeaderStart ▸ number little 4 (a_version versions) Body

abbrev pub final : Bool → List ℕ
final true = 0x01 ∷ []
final false = []

-- ---- what a derivation says

-- its version
abbrev pub version : Tree Member → ℕ
version t = t.1.0

-- its sections
abbrev pub front_section : (t : Tree Member) → Tree (Front (version t))
front_section t = t.1.1.0.0.0

abbrev pub dimensions_section : (t : Tree Member) → Tree (Dimensions (version t))
dimensions_section t = t.1.1.0.0.1

abbrev pub axes_section : Tree Member → Tree Axes
axes_section t = t.1.1.0.1

abbrev pub cells_section : (t : Tree Member) → Tree (Cells (version t))
cells_section t = t.1.1.1

abbrev pub dimensions : (t : Tree Member) → List (Tree (Dimension (version t)))
dimensions t = dims_of (version t) (dimensions_section t)

abbrev pub layers : Tree Member → ℕ
layers t = axis_layers (axes_section t)

abbrev pub rows : Tree Member → ℕ
rows t = axis_rows (axes_section t)

abbrev pub columns : Tree Member → ℕ
columns t = axis_columns (axes_section t)

-- the axis entries: layers, then rows, then columns
abbrev pub order : Tree Member → List ℕ
order t = map entry_index (axis_entries (axes_section t))

abbrev pub cells : (t : Tree Member) → List (Tree (Cell (version t)))
cells t = cells_of (version t) (cells_section t)

-- the number of category nodes
abbrev pub nodes : Tree Member → ℕ
nodes t = sum (dim_nodes (version t)) (dimensions t)

-- n of each dimension, and their product
abbrev pub ns : Tree Member → List ℕ
ns t = map (λ d. length (dim_leaves (version t) d)) (dimensions t)

abbrev pub places : Tree Member → ℕ
places t = product (ns t)

-- where what follows the version starts: after 01 00 and the version
abbrev pub body_at : ℕ
body_at = 6

-- where the first dimension and the first cell start
abbrev pub dimensions_at : Tree Member → ℕ
dimensions_at t = body_at + size (Front (version t)) (front_section t) + 4

abbrev pub cells_start : Tree Member → ℕ
cells_start t = body_at + size (Front (version t) ▸ Dimensions (version t) ▸ Axes) t.1.1.0 + 4

-- the records (document 01, "What the caller gets")
abbrev pub node_records : Tree Member → List ℕ
node_records t = dims_words (version t) 0 0 (dimensions_at t) (dimensions t)

abbrev pub dimension_entries : Tree Member → List ℕ
dimension_entries t = dims_entries (version t) 0 (dimensions_at t) (dimensions t)

abbrev pub cell_records : Tree Member → List ℕ
cell_records t = rows_words (size (Cell (version t))) (cell_words_of (version t)) (cells_start t) (cells t)

-- the Values that they point to, in file order: the names of the category nodes and of the dimensions, and those of the cells
abbrev pub node_names : (t : Tree Member) → List (Tree (Value (version t)))
node_names t = flat_map (category_names (version t)) (dimensions t)

abbrev pub dimension_names : (t : Tree Member) → List (Tree (Value (version t)))
dimension_names t = map (dim_name (version t)) (dimensions t)

abbrev pub cell_values : (t : Tree Member) → List (Tree (CellValue (version t)))
cell_values t = map (cell_value (version t)) (cells t)

-- ---- derivations

-- a derivation of a run of bytes: it uses every byte, and keeps the sizes that we accept (document 01)
pub record MemberDerivation (bs : List ℕ) : Type 0 where
  pub tree : Tree Member
  pub ends : Bool
  pub valid : Valid Member tree
  pub spells : spell Member tree ++ final ends ≡ bs
  pub short : length bs ≤ member_bytes
  pub few_nodes : nodes tree ≤ most_nodes
  pub few_places : places tree ≤ most_places

-- what demand 3 asks of a derivation beside the grammar
pub record AsDemanded (t : Tree Member) : Type 0 where
  -- the n leaves of each dimension have the indexes 0 to n-1 once each
  pub leaves : All (LeavesOnce (version t)) (dimensions t)
  -- the axis counts add up to the number of dimensions
  pub counts : layers t + rows t + columns t ≡ length (dimensions t)
  -- each dimension is named once on the axes
  pub entries : OnceEach (length (dimensions t)) (order t)
  -- every cell is inside the table, and no cell index stands twice
  pub inside : OnceEach (places t) (map (cell_index (version t)) (cells t))

-- the two lent areas are large enough
pub record LargeEnough (t : Tree Member) (node_length cell_length : ℕ) : Type 0 where
  pub for_nodes : node_words * nodes t ≤ node_length
  pub for_cells : cell_words * length (cells t) ≤ cell_length
