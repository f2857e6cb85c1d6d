-- What reading a member answers, as 32-bit words in a lent area (document 01, "What the caller gets").
use Rattle.std.specs.Prelude.{◌≡◌, true, List, [], ◌∷◌, ◌++◌, ℕ, length, leb}
use Rattle.sizes.specs.Sizes.{answer_words}
use Rattle.sizes.specs.Basics.{pick}
use Rattle.answer.specs.declared.Answer.{Answer}
use Rattle.grammar.specs.Laws.Member.Checked.{checked}
use Rattle.answer.specs.Answer.{answer_of, nodes_after, cells_after}
use Rattle.answer.specs.Demand3.{Demand3}
use Rattle.store.specs.Puts.{AtFront}

-- 88 words: 0 refusal, 1 place, 2 dimensions, 3 nodes, 4 cells, 5 layers, 6 rows, 7 columns; from 8 on for each of 16 dimensions the
-- place and length of its name, its n and its first node; from 72 on the dimension numbers of the axes, in the order of the file
unfoldable pub answer_words_of : ℕ → Answer → List ℕ
answer_words_of place a =
    (a.refusal ∷ place ∷ a.dims ∷ a.nodes ∷ a.cells ∷ a.layers ∷ a.rows ∷ a.columns ∷ []) ++ a.dimensions ++ a.order

-- a call of `digarumbi_read_member`, which gave n: where `answer` has room for the words, they and the two areas are what `read_member` delivers
pub record MemberRead (member answer nodes cells : List ℕ) (n : ℕ) (answer' nodes' cells' : List ℕ) : Type 0 where
  pub words : let a = answer_of (checked member) (length nodes) (length cells) in AtFront answer_words (answer_words_of a.place a) answer n answer'
  pub node_area : nodes' ≡ pick (leb answer_words (length answer)) (nodes_after (checked member) nodes (length cells)) nodes
  pub cell_area : cells' ≡ pick (leb answer_words (length answer)) (cells_after (checked member) (length nodes) cells) cells
  -- and demand 3 holds of them, as of a call of `read_member`
  pub demands : leb answer_words (length answer) ≡ true → Demand3 member nodes cells (answer_of (checked member) (length nodes) (length cells)) nodes' cells'
