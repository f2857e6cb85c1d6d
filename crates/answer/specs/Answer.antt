-- What `read_member` answers, for all bytes and all lent areas (document 01, "What the caller gets"): by the tree that reading the member by
-- its rule gives, or by the refusal's number and place. `Demand3` says what this has to do with derivations and refusals.
use Rattle.std.specs.Prelude.{Bool, List, ◌++◌, ◌≡◌, ℕ, ◌-◌, ◌*◌, length, drop, leb}
use Rattle.sizes.specs.Sizes.{most_dimensions, node_words, cell_words, dimension_area}
use Rattle.sizes.specs.Basics.{pick}
use Rattle.grammar.specs.Layout.{Tree}
use Rattle.grammar.specs.Laws.Layout.Read.{Got, got, no}
use Rattle.answer.specs.declared.Answer.{Answer}
use Rattle.answer.specs.Demand3.{zeros}
use Rattle.grammar.specs.Member.{Member, dimensions, layers, rows, columns, order, cells, nodes, node_records, dimension_entries, cell_records}

-- a refusal, with the counts of nodes and cells, which are 0 but for 12 and 13; "everything else returned is 0"
unfoldable pub refusal : ℕ → ℕ → ℕ → ℕ → Answer
refusal n p nodes cells =
    record { refusal = n; place = p; dims = 0; nodes = nodes; cells = cells; dimensions = zeros dimension_area; layers = 0; rows = 0; columns = 0; order = zeros most_dimensions }

-- "the counts, and for each dimension the place and length of its name, its n and its first node ...; the axis order. Unused entries are 0."
unfoldable pub accepted : Tree Member → Answer
accepted t =
    record {
      refusal = 0;
      place = 0;
      dims = length (dimensions t);
      nodes = nodes t;
      cells = length (cells t);
      dimensions = dimension_entries t ++ zeros (dimension_area - length (dimension_entries t));
      layers = layers t;
      rows = rows t;
      columns = columns t;
      order = order t ++ zeros (most_dimensions - length (order t));
    }

-- areas of those lengths are large enough for the records of t
abbrev pub wide : Tree Member → ℕ → Bool
wide t node_length = leb (node_words * nodes t) node_length

abbrev pub long : Tree Member → ℕ → Bool
long t cell_length = leb (cell_words * length (cells t)) cell_length

-- the answer for areas of those lengths; 12 and 13 come last, in that order
unfoldable pub answer_of : Got (Tree Member) → ℕ → ℕ → Answer
answer_of (no n p) node_length cell_length = refusal n p 0 0
answer_of (got t r p) node_length cell_length =
    pick (wide t node_length)
    (pick (long t cell_length) (accepted t) (refusal 13 0 (nodes t) (length (cells t))))
    (refusal 12 0 (nodes t) (length (cells t)))

-- the node area then: on acceptance the records, and beyond them what was there
unfoldable pub nodes_after : Got (Tree Member) → List ℕ → ℕ → List ℕ
nodes_after (no n p) old cell_length = old
nodes_after (got t r p) old cell_length = pick (wide t (length old)) (pick (long t cell_length) (node_records t ++ drop (node_words * nodes t) old) old) old

-- and the cell area
unfoldable pub cells_after : Got (Tree Member) → ℕ → List ℕ → List ℕ
cells_after (no n p) node_length old = old
cells_after (got t r p) node_length old = pick (wide t node_length) (pick (long t (length old)) (cell_records t ++ drop (cell_words * length (cells t)) old) old) old

-- what a call of `read_member` answers, and what the two areas hold then
pub record Delivered (y : Got (Tree Member)) (nodes cells : List ℕ) (r : Answer) (nodes' cells' : List ℕ) : Type 0 where
  pub answer : r ≡ answer_of y (length nodes) (length cells)
  pub node_area : nodes' ≡ nodes_after y nodes (length cells)
  pub cell_area : cells' ≡ cells_after y (length nodes) cells
