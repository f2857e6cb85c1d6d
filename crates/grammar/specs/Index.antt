-- The places of a table: how many there are, and which one the coordinates of a cell give.
use Rattle.std.specs.Prelude.{List, [], ◌∷◌, map, ℕ, zero, suc, ◌+◌, ◌*◌, ◌/◌, ◌%◌, ◌<◌}
use Rattle.grammar.specs.Layout.{All}

-- ---- the product

-- the exact product, 1 for none (document 01: "The table has as many places as the exact product of all n")
unfoldable pub product : List ℕ → ℕ
product [] = 1
product (n ∷ ns) = n * product ns

-- ---- the index of a cell (003, Cells)

-- "k = n_i × k + x_i, i from 1 to d", from k on: each dimension's n, and the coordinate x on it
abbrev pub index_from : ℕ → List (ℕ × ℕ) → ℕ
index_from k [] = k
index_from k (d ∷ ds) = index_from (d.0 * k + d.1) ds

abbrev pub index : List (ℕ × ℕ) → ℕ
index ds = index_from 0 ds

-- each dimension's n
abbrev pub shape : List (ℕ × ℕ) → List ℕ
shape ds = map (λ d. d.0) ds

-- each coordinate is below its n
abbrev pub Inside : List (ℕ × ℕ) → Type 0
Inside ds = All (λ d. d.1 < d.0) ds

-- ---- the coordinates of a cell

-- the inverse of the index (document 02, T-01; `Laws.Index`): the index k on each dimension, beside its n. The last dimension changes fastest, so
-- one step on a dimension is as many places as the dimensions after it have
unfoldable pub coordinates : List ℕ → ℕ → List (ℕ × ℕ)
coordinates [] k = []
coordinates (n ∷ ns) k = (n, k / product ns) ∷ coordinates ns (k % product ns)

-- on dimension i alone
unfoldable pub coordinate : List ℕ → ℕ → ℕ → ℕ
coordinate [] i k = 0
coordinate (n ∷ ns) zero k = k / product ns
coordinate (n ∷ ns) (suc i) k = coordinate ns i (k % product ns)
