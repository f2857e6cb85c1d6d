-- What the words of records say (document 01, "What the caller gets"): leaves, the n of dimensions, axis entries and cell indexes. The
-- records are 32-bit words; a word past the last counts as 0.
use Rattle.std.specs.Prelude.{Bool, List, [], ◌∷◌, ℕ, zero, suc, ◌+◌, ◌*◌, get_or, eqb}
use Rattle.sizes.specs.Basics.{pick}
use Rattle.sizes.specs.Sizes.{node_words, name_place, name_length, leaf_index, name_to_index, dimension_words, dimension_n}
use Rattle.grammar.specs.Once.{Leaf}

unfoldable pub word : List ℕ → ℕ → ℕ
word ws i = get_or ws i 0

-- ---- leaves

-- the leaf that node i is
unfoldable pub leaf : List ℕ → ℕ → Leaf
leaf ws i = (
  word ws (node_words * i + leaf_index),
  word ws (node_words * i + name_place) + word ws (node_words * i + name_length) + name_to_index,
)

-- node i is a leaf: its first word is 0
unfoldable pub is_leaf : List ℕ → ℕ → Bool
is_leaf ws i = eqb (word ws (node_words * i)) 0

-- the leaves among the k nodes from node i on, in file order
unfoldable pub leaves : List ℕ → ℕ → ℕ → List Leaf
leaves ws i zero = []
leaves ws i (suc k) = pick (is_leaf ws i) (leaf ws i ∷ leaves ws (i + 1) k) (leaves ws (i + 1) k)

-- ---- dimensions

-- the n of the k dimensions from dimension i on, out of their entries
unfoldable pub sizes : List ℕ → ℕ → ℕ → List ℕ
sizes ws i zero = []
sizes ws i (suc k) = word ws (dimension_words * i + dimension_n) ∷ sizes ws (i + 1) k

-- ---- axis entries and cell indexes

-- the first word of each of the first k records of that many words, the last record first: so one more record extends it in front,
-- as `AllFresh` extends what was seen. An axis entry is a record of one word, a cell one of `cell_words`.
unfoldable pub firsts : ℕ → List ℕ → ℕ → List ℕ
firsts step ws zero = []
firsts step ws (suc k) = word ws (step * k) ∷ firsts step ws k
