-- Source document 003, "Dimensions", "Categories", "Axes" and "Cells", with document 01's choices. The version, 1 or 3, is that of the Header.
use Rattle.std.specs.Prelude.{List, [], ◌∷◌, ℕ, zero, suc, ◌^◌, ◌-◌}
use Rattle.sizes.specs.Sizes.{most_dimensions, most_cells, category_depth}
use Rattle.grammar.specs.Layout.{little, any_number, one_of, Layout, number, ◌▸◌, times, nothing}
use Rattle.grammar.specs.Conventions.{fixed, i, byte, bool, int32, int64, at_most_many, many}
use Rattle.grammar.specs.Value.{Value, CellValue}

-- ---- 003, Categories

-- Leaf => 00 00 00 i2 int32[leaf-index] i0, without the three bytes
abbrev pub Leaf : Layout
Leaf = i 2 ▸ int32 ▸ i 0

-- the number -1, as four bytes spell it
abbrev pub minus_one : ℕ
minus_one = 2 ^ 32 - 1

-- Group => bool[merge] 00 01 int32[x23] i-1 int32[n-subcategories] Category*[n-subcategories], without the three bytes.
-- `below` is what follows the count
abbrev pub GroupOf : (ℕ → Layout) → Layout
GroupOf below = int32 ▸ i minus_one ▸ number little 4 any_number below

-- document 01: the three bytes are one field. 00 00 00 makes a leaf, (00 or 01) 00 01 a group
abbrev pub kinds : List ℕ
kinds = 0 ∷ 0x01_00_00 ∷ 0x01_00_01 ∷ []

abbrev pub KindOf : (ℕ → Layout) → ℕ → Layout
KindOf below zero = Leaf
KindOf below (suc k) = GroupOf below

-- Category => Value[name] (Leaf | Group)
abbrev pub CategoryOf : ℕ → (ℕ → Layout) → Layout
CategoryOf version below = Value version ▸ number little 3 (one_of kinds) (KindOf below)

-- a category, of which d levels may be nested
abbrev pub CategoryIn : ℕ → ℕ → Layout
CategoryIn version zero = nothing
CategoryIn version (suc d) = CategoryOf version (λ n. times n (CategoryIn version d))

-- document 01: categories nested 8 deep
abbrev pub Category : ℕ → Layout
Category version = CategoryIn version category_depth

-- ---- 003, Dimensions

-- DimProperties => byte[x1] byte[x2] int32[x3] bool[hide-dim-label] bool[hide-all-labels] 01 int32[dim-index]
unfoldable pub DimProperties : Layout
DimProperties = byte ▸ byte ▸ int32 ▸ bool ▸ bool ▸ fixed 0x01 ▸ int32

-- Dimension => Value[name] DimProperties int32[n-categories] Category*[n-categories]
abbrev pub Dimension : ℕ → Layout
Dimension version = Value version ▸ DimProperties ▸ many (Category version)

-- Dimensions => int32[n-dims] Dimension*[n-dims]; document 01: at most 16
abbrev pub Dimensions : ℕ → Layout
Dimensions version = at_most_many most_dimensions (Dimension version)

-- ---- 003, Axes

-- Axes => int32[n-layers] int32[n-rows] int32[n-columns] int32*[n-layers] int32*[n-rows] int32*[n-columns]
abbrev pub Axes : Layout
Axes =
    number little 4 any_number (λ layers.
    number little 4 any_number (λ rows.
    number little 4 any_number (λ columns.
    times layers int32 ▸ times rows int32 ▸ times columns int32)))

-- ---- 003, Cells

-- Cell => int64[index] v1(00?) Value
abbrev pub Cell : ℕ → Layout
Cell version = int64 ▸ CellValue version

-- Cells => int32[n-cells] Cell*[n-cells]; document 01: at most 4,096
abbrev pub Cells : ℕ → Layout
Cells version = at_most_many most_cells (Cell version)
