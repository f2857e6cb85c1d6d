-- "With member i's entry, the lengths of list, buffer and areas, and what share i held the same, changing another entry or its bytes changes
-- nothing in member i's answer or share, unless the changed bytes lie in member i too." (document 02, T-09)
use Rattle.std.specs.Prelude.{◌≡◌, refl, Bool, true, false, List, length, take, drop, get_or, leb}
use Rattle.std.proofs.Common.{sym, ap, ◌∙◌, arith, length-drop, ext_get_or, get_or-take, get_or-drop, length-take-le, leb-true}
use Prim.Native.Nat.{ℕ, ◌+◌, ◌/◌, ◌≤◌, ◌<◌}
use Rattle.sizes.specs.Basics.{pick}
use Rattle.grammar.specs.Laws.Layout.Read.{no}
use Rattle.grammar.specs.Laws.Member.Checked.{checked}
use Rattle.members.specs.Members.{members, start, size, list_refusal, member_at, share_of, share_answer, node_share_at, cell_share_at, answer_at, nodes_then, cells_then}
use Rattle.members.specs.Laws.Areas.{node_share_then, cell_share_then}
use Rattle.members.specs.Isolation.{SameOf}

-- the same bytes
same_bytes : (first n : ℕ) (buffer buffer' : List ℕ) → length buffer ≡ length buffer' → first + n ≤ length buffer
    → ((k : ℕ) → first ≤ k → k < first + n → get_or buffer k 0 ≡ get_or buffer' k 0) → take n (drop first buffer) ≡ take n (drop first buffer')
same_bytes first n buffer buffer' e fits h =
    let l = length-take-le n (drop first buffer) (omega (arith, length-drop first buffer)) in
    let l' = length-take-le n (drop first buffer') (omega (arith, length-drop first buffer')) in
    ext_get_or 0 (take n (drop first buffer)) (take n (drop first buffer')) (l ∙ sym l') (λ k below.
    let m : k < n = omega arith in
    rw (get_or-take n (drop first buffer) k 0 m, get_or-take n (drop first buffer') k 0 m, get_or-drop first buffer k 0, get_or-drop first buffer' k 0) (h (first + k) (omega arith) (omega arith)))

module _ {i : ℕ} {buffer list nodes cells buffer' list' nodes' cells' : List ℕ} (s : SameOf i buffer list nodes cells buffer' list' nodes' cells') where
  same_member : member_at buffer list i ≡ member_at buffer' list' i
  unfolding member_at pick
  same_member = rw (← s.same_start, ← s.same_size, ← s.buffer_length) (go (leb (start list i + size list i) (length buffer)) refl)
    where
      first : ℕ
      first = start list i

      n : ℕ
      n = size list i

      go : (b : Bool) → leb (first + n) (length buffer) ≡ b → pick b (checked (take n (drop first buffer))) (no 2 0) ≡ pick b (checked (take n (drop first buffer'))) (no 2 0)
      go true e = let inside = leb-true (first + n) (length buffer) e in ap checked (same_bytes first n buffer buffer' s.buffer_length inside (s.bytes inside))
      go false e = refl

  same_refusal : list_refusal list ≡ list_refusal list'
  unfolding list_refusal
  same_refusal = rw s.list_length

  -- Isolation: member i's answer ..
  pub same_answer : answer_at buffer list (length nodes) (length cells) i ≡ answer_at buffer' list' (length nodes') (length cells') i
  unfolding answer_at share_answer
  same_answer = rw (same_member, s.list_length, s.node_length, s.cell_length)

  -- .. and what its shares then hold are the same
  module _ (h : i < members list) where
    abbrev node_share_words : ℕ
    node_share_words = length nodes / members list

    abbrev cell_share_words : ℕ
    cell_share_words = length cells / members list

    pub same_nodes : share_of node_share_words i (nodes_then buffer list nodes (length cells)) ≡ share_of node_share_words i (nodes_then buffer' list' nodes' (length cells'))
    unfolding node_share_at
    same_nodes =
        let there = rw (← s.node_length, ← s.list_length) at (node_share_then buffer' list' nodes' (length cells') i (rw s.list_length at h)) in
        node_share_then buffer list nodes (length cells) i h ∙ rw (same_refusal, same_member, s.node_share, s.cell_length) (sym there)

    pub same_cells : share_of cell_share_words i (cells_then buffer list (length nodes) cells) ≡ share_of cell_share_words i (cells_then buffer' list' (length nodes') cells')
    unfolding cell_share_at
    same_cells =
        let there = rw (← s.cell_length, ← s.list_length) at (cell_share_then buffer' list' (length nodes') cells' i (rw s.list_length at h)) in
        cell_share_then buffer list (length nodes) cells i h ∙ rw (same_refusal, same_member, s.cell_share, s.node_length) (sym there)
