-- A night's members in one call (document 02, T-09): a buffer, a list of members in it, and two areas that are cut into shares.
use Rattle.std.specs.Prelude.{◌≡◌, List, [], ◌++◌, ℕ, zero, suc, ◌+◌, ◌*◌, ◌/◌, ◌%◌, ◌≤◌, length, take, drop, get_or, leb, eqb}
use Rattle.sizes.specs.Sizes.{member_bytes, most_members}
use Rattle.sizes.specs.Basics.{pick}
use Rattle.grammar.specs.Layout.{Tree}
use Rattle.grammar.specs.Laws.Layout.Read.{Got, no}
use Rattle.answer.specs.declared.Answer.{Answer}
use Rattle.grammar.specs.Member.{Member}
use Rattle.grammar.specs.Laws.Member.Checked.{checked}
use Rattle.answer.specs.Answer.{answer_of, nodes_after, cells_after}

-- ---- the list

-- "a list of words, start and length in turn"
abbrev pub members : List ℕ → ℕ
members list = length list / 2

abbrev pub start : List ℕ → ℕ → ℕ
start list i = get_or list (2 * i) 0

abbrev pub size : List ℕ → ℕ → ℕ
size list i = get_or list (2 * i + 1) 0

-- "26 at place 0 for a list over 64 members or of an odd number of words, nothing read"; 0 for any other
unfoldable pub list_refusal : List ℕ → ℕ
list_refusal list = pick (leb (length list) (2 * most_members)) (pick (eqb (length list % 2) 0) 0 26) 26

-- ---- a member of it

-- "2 at place 0, before 1, for that member alone if it isn't inside the buffer"; of any other what reading its bytes gives
unfoldable pub member_at : List ℕ → List ℕ → ℕ → Got (Tree Member)
member_at buffer list i = pick (leb (start list i + size list i) (length buffer)) (checked (take (size list i) (drop (start list i) buffer))) (no 2 0)

-- ---- shares

-- share i of an area, where each has w words
unfoldable pub share_of : ℕ → ℕ → List ℕ → List ℕ
share_of w i area = take w (drop (w * i) area)

-- the area with other words in its share i
unfoldable pub with_share : ℕ → ℕ → List ℕ → List ℕ → List ℕ
with_share w i area words = take (w * i) area ++ (words ++ drop (w * i + w) area)

-- "Each record area is cut into equal shares by whole division ... and member i gets share i": what is answered and what the two shares then
-- hold, where y is what reading the member gives and n the number of members
module _ (y : Got (Tree Member)) (n : ℕ) where
  unfoldable pub share_answer : ℕ → ℕ → Answer
  share_answer node_length cell_length = answer_of y (node_length / n) (cell_length / n)

module _ (y : Got (Tree Member)) (n i : ℕ) where
  unfoldable pub node_share_at : List ℕ → ℕ → List ℕ
  node_share_at nodes cell_length = nodes_after y (share_of (length nodes / n) i nodes) (cell_length / n)

  unfoldable pub cell_share_at : ℕ → List ℕ → List ℕ
  cell_share_at node_length cells = cells_after y (node_length / n) (share_of (length cells / n) i cells)

-- a call that reads member i alone: nothing but its two shares changes
pub record InShare (y : Got (Tree Member)) (n i : ℕ) (nodes cells : List ℕ) (r : Answer) (nodes' cells' : List ℕ) : Type 0 where
  pub answer : r ≡ share_answer y n (length nodes) (length cells)
  pub node_area : nodes' ≡ with_share (length nodes / n) i nodes (node_share_at y n i nodes (length cells))
  pub cell_area : cells' ≡ with_share (length cells / n) i cells (cell_share_at y n i (length nodes) cells)
  pub place : r.place ≤ member_bytes

-- ---- a night

-- the first n of some lists, one after the other
unfoldable pub joined : (ℕ → List ℕ) → ℕ → List ℕ
joined f zero = []
joined f (suc n) = joined f n ++ f n

-- what an area of shares of w words holds, where share i is f i of n: "the remainder left untouched"
unfoldable pub cut : ℕ → ℕ → (ℕ → List ℕ) → List ℕ → List ℕ
cut w n f area = joined f n ++ drop (w * n) area

module _ (buffer list : List ℕ) where
  -- the answer of member i, for areas of those lengths
  unfoldable pub answer_at : ℕ → ℕ → ℕ → Answer
  answer_at node_length cell_length i = share_answer (member_at buffer list i) (members list) node_length cell_length

  -- the node area after a call; "nothing read" where the list is refused
  unfoldable pub nodes_then : List ℕ → ℕ → List ℕ
  nodes_then nodes cell_length =
      let n = members list in
      pick (eqb (list_refusal list) 0) (cut (length nodes / n) n (λ i. node_share_at (member_at buffer list i) n i nodes cell_length) nodes) nodes

  -- and the cell area
  unfoldable pub cells_then : ℕ → List ℕ → List ℕ
  cells_then node_length cells =
      let n = members list in
      pick (eqb (list_refusal list) 0) (cut (length cells / n) n (λ i. cell_share_at (member_at buffer list i) n i node_length cells) cells) cells
