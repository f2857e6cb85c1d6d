-- Member after member, each read with its share of areas whose shares before it are filled: so a loop over the members of a list reads each
-- as if it were read alone.
use Rattle.std.specs.Prelude.{◌≡◌, List, ℕ, ◌+◌, ◌/◌, ◌≤◌, ◌<◌, length}
use Rattle.std.proofs.Common.{◌∙◌, arith}
use Rattle.answer.specs.declared.Answer.{Answer}
use Rattle.members.specs.Members.{members, member_at, node_share_at, cell_share_at, InShare, answer_at}
use Rattle.members.specs.Laws.Shares.{shares_inside, Filled, none_filled, same_length, same_share, one_more}
use Rattle.members.specs.Laws.Reading.{node_share_length, cell_share_length}

-- the two areas, with the shares of the members before i filled
pub record UpTo (buffer list nodes cells : List ℕ) (i : ℕ) (nodes' cells' : List ℕ) : Type 0 where
  pub node_area : Filled (length nodes / members list) (λ k. node_share_at (member_at buffer list k) (members list) k nodes (length cells)) nodes i nodes'
  pub cell_area : Filled (length cells / members list) (λ k. cell_share_at (member_at buffer list k) (members list) k (length nodes) cells) cells i cells'

pub none_read : (buffer list nodes cells : List ℕ) → UpTo buffer list nodes cells 0 nodes cells
none_read buffer list nodes cells = record { node_area = none_filled _ _ nodes; cell_area = none_filled _ _ cells }

module _ {buffer list nodes cells : List ℕ} {i : ℕ} {nodes' cells' : List ℕ} (x : UpTo buffer list nodes cells i nodes' cells') (h : i ≤ members list) where
  pub same_node_length : length nodes' ≡ length nodes
  same_node_length = same_length x.node_area (shares_inside (length nodes) (members list) i h)

  pub same_cell_length : length cells' ≡ length cells
  same_cell_length = same_length x.cell_area (shares_inside (length cells) (members list) i h)

module _ {buffer list nodes cells : List ℕ} {i : ℕ} {nodes' cells' : List ℕ} (x : UpTo buffer list nodes cells i nodes' cells') (h : i < members list) {r : Answer}
    {nodes'' cells'' : List ℕ} (y : InShare (member_at buffer list i) (members list) i nodes' cells' r nodes'' cells'') where
  node_length : length nodes' ≡ length nodes
  node_length = same_node_length x (omega arith)

  cell_length : length cells' ≡ length cells
  cell_length = same_cell_length x (omega arith)

  pub its_answer : r ≡ answer_at buffer list (length nodes) (length cells) i
  unfolding answer_at
  its_answer = y.answer ∙ rw (node_length, cell_length)

  pub one_more_read : UpTo buffer list nodes cells (i + 1) nodes'' cells''
  unfolding node_share_at cell_share_at
  one_more_read =
      let m = member_at buffer list i in
      let n = members list in
      record {
        node_area = one_more x.node_area (node_share_length m n i h nodes (length cells)) (rw (node_length, cell_length, same_share x.node_area) at y.node_area);
        cell_area = one_more x.cell_area (cell_share_length m n i h (length nodes) cells) (rw (cell_length, node_length, same_share x.cell_area) at y.cell_area);
      }
