-- Positions on axes (document 02, T-11). An axis is a list of dimensions, inner first. The n of a dimension and the coordinate on it are
-- functions of its number.
use Rattle.std.specs.Prelude.{List, [], ◌∷◌, map, ℕ, zero, suc, ◌+◌, ◌*◌, ◌/◌, ◌%◌, eqb, length}
use Rattle.sizes.specs.Basics.{among, pick}
use Rattle.grammar.specs.RecordWords.{word}
use Rattle.grammar.specs.Index.{product, index}

-- ---- one axis

-- "the position is built from the last to the first: k = n × k + x; an axis with no dimensions has position 0"
unfoldable pub position_on : (ℕ → ℕ) → (ℕ → ℕ) → List ℕ → ℕ
position_on n x [] = 0
position_on n x (e ∷ axis) = n e * position_on n x axis + x e

-- how many positions it has: the "axis's product"
abbrev pub span : (ℕ → ℕ) → List ℕ → ℕ
span n axis = product (map n axis)

-- the coordinate on its dimension e of the position k: the inner dimension changes fastest (`Laws.Axis` has that each is the other's inverse)
unfoldable pub coordinate_on : (ℕ → ℕ) → List ℕ → ℕ → ℕ → ℕ
coordinate_on n [] k e = 0
coordinate_on n (d ∷ axis) k e = pick (eqb e d) (k % n d) (coordinate_on n axis (k / n d) e)

-- ---- several axes

-- the position on each axis of the cell with coordinates x
unfoldable pub positions : (ℕ → ℕ) → (ℕ → ℕ) → List (List ℕ) → List ℕ
positions n x [] = []
positions n x (a ∷ axes) = position_on n x a ∷ positions n x axes

-- the coordinate on dimension e of the cell at positions ks: that on the axis which has e
unfoldable pub coordinate_at : (ℕ → ℕ) → List (List ℕ) → List ℕ → ℕ → ℕ
coordinate_at n [] ks e = 0
coordinate_at n (a ∷ axes) [] e = 0
coordinate_at n (a ∷ axes) (k ∷ ks) e = pick (among e a) (coordinate_on n a k e) (coordinate_at n axes ks e)

-- the same cell on other axes
unfoldable pub turned : (ℕ → ℕ) → List (List ℕ) → List (List ℕ) → List ℕ → List ℕ
turned n axes others ks = positions n (coordinate_at n axes ks) others

-- ---- layers, rows and columns

-- the c dimensions from entry i of an order on
unfoldable pub part : (ℕ → ℕ) → ℕ → ℕ → List ℕ
part w i zero = []
part w i (suc c) = w i ∷ part w (i + 1) c

-- the axes that three counts make of an order: layers, rows, columns
unfoldable pub axes_of : List ℕ → ℕ → ℕ → ℕ → List (List ℕ)
axes_of order layers rows columns = part (word order) 0 layers ∷ part (word order) layers rows ∷ part (word order) (layers + rows) columns ∷ []

-- ---- the index

-- c dimensions from dimension i on: the n and the coordinate of each, as 003's index has them
unfoldable pub pairs : (ℕ → ℕ) → (ℕ → ℕ) → ℕ → ℕ → List (ℕ × ℕ)
pairs n x i zero = []
pairs n x i (suc c) = (n i, x i) ∷ pairs n x (i + 1) c

-- the index of the cell at positions ks
abbrev pub index_at : List ℕ → List (List ℕ) → List ℕ → ℕ
index_at ns axes ks = index (pairs (word ns) (coordinate_at (word ns) axes ks) 0 (length ns))
