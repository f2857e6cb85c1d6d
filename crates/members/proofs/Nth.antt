-- A member of a list, and one that the list has not.
use mathlib.Core.Path.{◌≡◌, ◌∙◌}
use mathlib.Core.List.{List, []}
use Prim.Native.Nat.{ℕ, ◌*◌, ◌/◌, ◌≤◌}
use lib.ListN.{length, take-append-drop}
use lib.Seq.{drop-drop}
use Rattle.sizes.specs.Sizes.{member_bytes}
use Rattle.grammar.specs.Part.{part_of}
use Rattle.answer.specs.declared.Answer.{Answer}
use Rattle.grammar.specs.Laws.Member.Checked.{checked}
use Rattle.answer.specs.Answer.{answer_of, nodes_after, cells_after, Delivered}
use Rattle.members.specs.Members.{members, start, size, member_at, share_of, with_share, share_answer, node_share_at, cell_share_at, InShare}
use Rattle.members.specs.Laws.Reading.{empty_refused, member_part, member_none}

-- a share put back as it was
same : (w i : ℕ) (area : List ℕ) → area ≡ with_share w i area (share_of w i area)
unfolding with_share share_of
same w i area = rw (← (drop-drop w (w * i) area), take-append-drop, take-append-drop)

-- its part of the buffer
pub nth : (buffer list : List ℕ) (i : ℕ) {part : List ℕ} → part ≡ part_of buffer (start list i) (size list i)
    → {nodes cells : List ℕ} {r : Answer} {nodes' cells' : List ℕ} → InShare (checked part) (members list) i nodes cells r nodes' cells'
    → InShare (member_at buffer list i) (members list) i nodes cells r nodes' cells'
nth buffer list i e x = rw (e, member_part buffer list i) at x

-- nothing is read, and nothing changes
pub none : (buffer list : List ℕ) (i : ℕ) → members list ≤ i → {part : List ℕ} → part ≡ [] → {nodes cells : List ℕ} {r : Answer} {nodes' cells' : List ℕ}
    → Delivered (checked part) nodes cells r nodes' cells' → r.place ≤ member_bytes → InShare (member_at buffer list i) (members list) i nodes cells r nodes' cells'
unfolding share_answer node_share_at cell_share_at answer_of nodes_after cells_after
none buffer list i h e {nodes} {cells} x p =
    let d = rw (e, empty_refused) at x in
    record {
      answer = rw (member_none buffer list i h) d.answer;
      node_area = rw (member_none buffer list i h) (d.node_area ∙ same (length nodes / members list) i nodes);
      cell_area = rw (member_none buffer list i h) (d.cell_area ∙ same (length cells / members list) i cells);
      place = p;
    }
