-- A member's cells at their layer, row and column positions, on its own axes or on any others (document 02, T-11).
use Rattle.std.specs.Prelude.{◌≡◌, Bool, true, List, [], ◌∷◌, map, ℕ, eqb}
use Rattle.sizes.specs.Basics.{pick}
use Rattle.grammar.specs.Layout.{Tree}
use Rattle.grammar.specs.RecordWords.{word}
use Rattle.grammar.specs.Member as member
use Rattle.grammar.specs.Member.{Member}
use Rattle.contents.specs.Said.{Contents}
use Rattle.total.specs.declared.sums.Sums.{Sums}
use Rattle.total.specs.Total.{CellSays, sums}
use Rattle.position.specs.Axes.{coordinate_at, axes_of}
use Rattle.position.specs.Answers.{refusal, position, index_of}

-- three counts and an order
pub record AxisOrder : Type 0 where
  pub layers : ℕ
  pub rows : ℕ
  pub columns : ℕ
  pub order : List ℕ

-- a member's own
abbrev pub own_axes : Tree Member → AxisOrder
own_axes t = record { layers = member.layers t; rows = member.rows t; columns = member.columns t; order = member.order t }

-- a cell at its position: in place of its index, what T-01 has of a cell
pub record CellAt : Type 0 where
  pub layer : ℕ
  pub row : ℕ
  pub column : ℕ
  pub place : ℕ
  pub contents : Contents

-- in a table with these n
module _ (ns : List ℕ) (x : AxisOrder) where
  -- neither 7 nor 9 is the case for these axes
  abbrev pub Fitting : Type 0
  Fitting = refusal ns x.layers x.rows x.columns x.order ≡ 0

  -- from the index to the position, as `position_of` answers
  abbrev pub to_position : CellSays → CellAt
  to_position c =
      let p = position ns x.layers x.rows x.columns x.order c.index in
      record { layer = p.layer; row = p.row; column = p.column; place = c.place; contents = c.contents }

  -- and back, as `index_of` answers
  abbrev pub to_index : CellAt → CellSays
  to_index c = record {
    index = (index_of ns x.layers x.rows x.columns x.order c.layer c.row c.column).index;
    place = c.place;
    contents = c.contents;
  }

  -- whether a cell is under a leaf, by its position alone
  abbrev pub under_at : ℕ → ℕ → CellAt → Bool
  under_at dimension leaf c =
      eqb (coordinate_at (word ns) (axes_of x.order x.layers x.rows x.columns) (c.layer ∷ c.row ∷ c.column ∷ []) dimension) leaf

-- "triple to index to the other triple"
abbrev pub turn : List ℕ → AxisOrder → AxisOrder → List CellAt → List CellAt
turn ns x y cs = map (λ c. to_position ns y (to_index ns x c)) cs

-- those cells of a list that pass a test
unfoldable pub chosen : (CellAt → Bool) → List CellAt → List CellAt
chosen test [] = []
chosen test (c ∷ cs) = pick (test c) (c ∷ chosen test cs) (chosen test cs)

-- T-01's sums of the cells that are under a leaf by their positions
abbrev pub sums_at : List ℕ → AxisOrder → ℕ → ℕ → List CellAt → Sums
sums_at ns x dimension leaf cs = sums (λ _. true) (map (to_index ns x) (chosen (under_at ns x dimension leaf) cs))
