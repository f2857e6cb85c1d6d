-- What is answered for an index, and for a layer, row and column position (document 02, T-11). A refusal stands at place 0.
use Rattle.std.specs.Prelude.{Bool, true, ◌&&◌, List, [], ◌∷◌, ℕ, ◌+◌, eqb, ltb, length}
use Rattle.sizes.specs.Sizes.{most_dimensions, most_places}
use Rattle.sizes.specs.Basics.{pick}
use Rattle.grammar.specs.RecordWords.{word}
use Rattle.grammar.specs.Once.{fresh}
use Rattle.grammar.specs.Index.{product, coordinate}
use Rattle.position.specs.Axes.{position_on, span, part, axes_of, index_at}

-- where a cell stands: its layer, row and column position; or the number of a refusal, and else 0
pub record Position : Type 0 where
  pub refusal : ℕ
  pub layer : ℕ
  pub row : ℕ
  pub column : ℕ

-- the index of a cell; or the number of a refusal, and else 0
pub record CellIndex : Type 0 where
  pub refusal : ℕ
  pub index : ℕ

-- ---- refusals 7 and 9

-- numbers below d, none of which is among those after it (`Laws.Accepted`: it is `OnceEach`)
unfoldable pub each_axis_once : ℕ → List ℕ → Bool
each_axis_once d [] = true
each_axis_once d (e ∷ es) = fresh d es e && each_axis_once d es

-- "7 for more than 16 dimensions or a product above the limit"
unfoldable pub too_large_answer : List ℕ → Bool
too_large_answer ns = pick (ltb most_dimensions (length ns)) true (ltb most_places (product ns))

-- "9 for counts that don't add up or an order that isn't a permutation": one entry for each dimension
unfoldable pub axes_match : ℕ → ℕ → ℕ → ℕ → List ℕ → Bool
axes_match d layers rows columns order = eqb (layers + rows + columns) d && eqb (length order) d && each_axis_once d order

-- 0 for none
unfoldable pub refusal : List ℕ → ℕ → ℕ → ℕ → List ℕ → ℕ
refusal ns layers rows columns order = pick (too_large_answer ns) 7 (pick (axes_match (length ns) layers rows columns order) 0 9)

-- ---- the position of an index

-- on the axis that has c entries of the order, from entry i on
unfoldable pub along : List ℕ → List ℕ → ℕ → ℕ → ℕ → ℕ
along ns order k i c = position_on (word ns) (λ e. coordinate ns e k) (part (word order) i c)

abbrev pub at : ℕ → ℕ → ℕ → Position
at l r c = record { refusal = 0; layer = l; row = r; column = c }

abbrev pub no_position_answer : ℕ → Position
no_position_answer n = record { refusal = n; layer = 0; row = 0; column = 0 }

-- "then 10 for an index or position outside"
unfoldable pub position : List ℕ → ℕ → ℕ → ℕ → List ℕ → ℕ → Position
position ns layers rows columns order k =
    pick (eqb (refusal ns layers rows columns order) 0)
    (pick (ltb k (product ns)) (at (along ns order k 0 layers) (along ns order k layers rows) (along ns order k (layers + rows) columns)) (no_position_answer 10))
    (no_position_answer (refusal ns layers rows columns order))

-- ---- the index of a position

-- how many positions the axis has that is c entries of the order, from entry i on
unfoldable pub span_of : List ℕ → List ℕ → ℕ → ℕ → ℕ
span_of ns order i c = span (word ns) (part (word order) i c)

-- each position is below its axis's product
unfoldable pub within : List ℕ → ℕ → ℕ → ℕ → List ℕ → ℕ → ℕ → ℕ → Bool
within ns layers rows columns order l r c = ltb l (span_of ns order 0 layers) && ltb r (span_of ns order layers rows) && ltb c (span_of ns order (layers + rows) columns)

abbrev pub found : ℕ → CellIndex
found k = record { refusal = 0; index = k }

abbrev pub no_index_answer : ℕ → CellIndex
no_index_answer n = record { refusal = n; index = 0 }

unfoldable pub index_of : List ℕ → ℕ → ℕ → ℕ → List ℕ → ℕ → ℕ → ℕ → CellIndex
index_of ns layers rows columns order l r c =
    pick (eqb (refusal ns layers rows columns order) 0)
    (pick (within ns layers rows columns order l r c) (found (index_at ns (axes_of order layers rows columns) (l ∷ r ∷ c ∷ []))) (no_index_answer 10))
    (no_index_answer (refusal ns layers rows columns order))
