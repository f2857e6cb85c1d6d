-- Two calls of `digarumbi_read_members`: what `Isolation` says of the members of a list, said of the words.
use Rattle.std.specs.Prelude.{◌≡◌, true, List, ℕ, ◌/◌, ◌<◌, length, drop, leb}
use Rattle.std.proofs.Common.{sym, ◌∙◌, drop-drop}
use Rattle.sizes.specs.Sizes.{answer_words, members_answer_words}
use Rattle.sizes.specs.Basics.{pick}
use Rattle.members.specs.Members.{members, list_refusal, share_of, cut}
use Rattle.members.specs.Laws.Shares.{cut_share}
use Rattle.members.specs.Isolation.{SameOf}
use Rattle.members.proofs.Isolation.{same_answer, same_nodes, same_cells}
use Rattle.members_words.specs.Members.{call_words, words_at, call_answer_of, MembersRead}

-- the 88 words of member i in an answer
abbrev pub member_words : ℕ → List ℕ → List ℕ
member_words i answers = share_of answer_words i (drop members_answer_words answers)

-- they are those of its answer
pub its_words : {buffer list answers nodes cells : List ℕ} {n : ℕ} {answers' nodes' cells' : List ℕ} → MembersRead buffer list answers nodes cells n answers' nodes' cells'
    → list_refusal list ≡ 0 → leb (call_words list) (length answers) ≡ true → (i : ℕ) → i < members list
    → member_words i answers' ≡ words_at buffer list (length nodes) (length cells) i
unfolding pick call_words call_answer_of cut
its_words {buffer} {list} {answers} {nodes} {cells} {answers' = answers'} x e t i h =
    let f = words_at buffer list (length nodes) (length cells) in
    let n = members list in
    let d = drop members_answer_words answers in
    let begins = rw (t, e) at x.words.1 in
    let behind : drop members_answer_words answers' ≡ cut answer_words n f d = rw (begins, drop-drop) in
    rw behind (cut_share answer_words f n d (x.widths t e) i h)

-- Isolation: two calls in which all of member i is the same, and that have room for their answers
module _ {i : ℕ} {buffer list answers nodes cells : List ℕ} {n : ℕ} {answers₁ nodes₁ cells₁ : List ℕ} {buffer' list' answers' nodes' cells' : List ℕ} {n' : ℕ} {answers'₁ nodes'₁ cells'₁ : List ℕ}
    (x : MembersRead buffer list answers nodes cells n answers₁ nodes₁ cells₁) (y : MembersRead buffer' list' answers' nodes' cells' n' answers'₁ nodes'₁ cells'₁)
    (room : leb (call_words list) (length answers) ≡ true) (room' : leb (call_words list') (length answers') ≡ true)
    (s : SameOf i buffer list nodes cells buffer' list' nodes' cells') (h : i < members list) where
  -- its words in the answer are the same ..
  pub same_words : list_refusal list ≡ 0 → list_refusal list' ≡ 0 → member_words i answers₁ ≡ member_words i answers'₁
  unfolding words_at
  same_words e e' = its_words x e room i h ∙ (rw (same_answer s) (sym (its_words y e' room' i (rw s.list_length at h))))

  -- .. and so are its shares
  pub same_node_share : share_of (length nodes / members list) i nodes₁ ≡ share_of (length nodes / members list) i nodes'₁
  unfolding pick
  same_node_share = rw (x.node_area, y.node_area, room, room') (same_nodes s h)

  pub same_cell_share : share_of (length cells / members list) i cells₁ ≡ share_of (length cells / members list) i cells'₁
  unfolding pick
  same_cell_share = rw (x.cell_area, y.cell_area, room, room') (same_cells s h)
