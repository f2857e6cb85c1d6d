-- "Answers and records equal those of reading each one by one with its share." (document 02, T-09) And the remainder of each area is as it was.
use Rattle.std.specs.Prelude.{◌≡◌, List, ℕ, ◌+◌, ◌*◌, ◌/◌, ◌≤◌, ◌<◌, length, take, drop}
use borrow.Author.Tests.{le-leb}
use Rattle.sizes.specs.Basics.{pick}
use Rattle.grammar.specs.Layout.{Bytes}
use Rattle.answer.specs.Answer.{Delivered}
use Rattle.answer.specs.Demand3.{Demand3}
use Rattle.answer.proofs.Laws.Holds.{demand3}
use Rattle.members.specs.Members.{members, start, size, list_refusal, member_at, share_of, share_answer, node_share_at, cell_share_at, answer_at, nodes_then, cells_then}
use Rattle.members.specs.Laws.Shares.{share_inside, share_length}
use Rattle.members.specs.Laws.Areas as areas

module _ (buffer list nodes cells : List ℕ) where
  abbrev n : ℕ
  n = members list

  -- share i of each area, which holds these words
  abbrev node_share : ℕ → List ℕ → List ℕ
  node_share i words = share_of (length nodes / n) i words

  abbrev cell_share : ℕ → List ℕ → List ℕ
  cell_share i words = share_of (length cells / n) i words

  module _ (i : ℕ) (h : i < n) (e : list_refusal list ≡ 0) where
    -- One by one: the answer of member i, and what its shares then hold, are what a call of `read_member` delivers that has these two shares
    pub one_by_one : Delivered (member_at buffer list i) (node_share i nodes) (cell_share i cells) (answer_at buffer list (length nodes) (length cells) i)
        (node_share i (nodes_then buffer list nodes (length cells))) (cell_share i (cells_then buffer list (length nodes) cells))
    unfolding answer_at share_answer node_share_at cell_share_at pick
    one_by_one =
        let node_words = share_length (length nodes / n) i nodes (share_inside (length nodes) n i h) in
        let cell_words = share_length (length cells / n) i cells (share_inside (length cells) n i h) in
        record {
          answer = rw (node_words, cell_words);
          node_area = rw cell_words (rw e at (areas.node_share_then buffer list nodes (length cells) i h));
          cell_area = rw node_words (rw e at (areas.cell_share_then buffer list (length nodes) cells i h));
        }

    -- so a member inside the buffer is read as demand 3 says
    pub demanded : (start list i + size list i ≤ length buffer) → let bytes = take (size list i) (drop (start list i) buffer) in Bytes bytes
        → Demand3 bytes (node_share i nodes) (cell_share i cells) (answer_at buffer list (length nodes) (length cells) i)
        (node_share i (nodes_then buffer list nodes (length cells))) (cell_share i (cells_then buffer list (length nodes) cells))
    unfolding member_at pick
    demanded inside b =
        let t = le-leb (start list i + size list i) (length buffer) inside in
        demand3 (take (size list i) (drop (start list i) buffer)) b (node_share i nodes) (cell_share i cells) (rw t at one_by_one)

  pub node_remainder : drop (length nodes / n * n) (nodes_then buffer list nodes (length cells)) ≡ drop (length nodes / n * n) nodes
  node_remainder = areas.node_remainder buffer list nodes (length cells)

  pub cell_remainder : drop (length cells / n * n) (cells_then buffer list (length nodes) cells) ≡ drop (length cells / n * n) cells
  cell_remainder = areas.cell_remainder buffer list (length nodes) cells
