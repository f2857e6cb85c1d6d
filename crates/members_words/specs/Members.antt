-- A night's members in one call, as 32-bit words (document 02, T-09).
use Rattle.std.specs.Prelude.{◌≡◌, true, List, [], ◌∷◌, ◌++◌, ℕ, ◌+◌, ◌*◌, ◌<◌, length, leb, eqb}
use Rattle.sizes.specs.Sizes.{answer_words, members_answer_words}
use Rattle.sizes.specs.Basics.{pick}
use Rattle.store.specs.Puts.{AtFront}
use Rattle.members.specs.Members.{members, list_refusal, joined, answer_at, nodes_then, cells_then}
use Rattle.member_words.specs.MemberWords.{answer_words_of}

-- how many words the answer has: "2 + 88 × members (2 with 26)"
unfoldable pub call_words : List ℕ → ℕ
call_words list = members_answer_words + pick (eqb (list_refusal list) 0) (answer_words * members list) 0

module _ (buffer list : List ℕ) (node_length cell_length : ℕ) where
  -- the 88 words of member i
  unfoldable pub words_at : ℕ → List ℕ
  words_at i = let a = answer_at buffer list node_length cell_length i in answer_words_of a.place a

  -- word 0 the refusal of the list, or 0, word 1 its place; then the words of each member, in the order of the list
  unfoldable pub call_answer_of : List ℕ
  call_answer_of = (list_refusal list ∷ 0 ∷ []) ++ pick (eqb (list_refusal list) 0) (joined words_at (members list)) []

-- a call of `digarumbi_read_members`, which gave n: nothing is read where `answers` has no room for the words. Each member's words are 88.
pub record MembersRead (buffer list answers nodes cells : List ℕ) (n : ℕ) (answers' nodes' cells' : List ℕ) : Type 0 where
  pub words : AtFront (call_words list) (call_answer_of buffer list (length nodes) (length cells)) answers n answers'
  pub node_area : nodes' ≡ pick (leb (call_words list) (length answers)) (nodes_then buffer list nodes (length cells)) nodes
  pub cell_area : cells' ≡ pick (leb (call_words list) (length answers)) (cells_then buffer list (length nodes) cells) cells
  pub widths : leb (call_words list) (length answers) ≡ true → list_refusal list ≡ 0 → (i : ℕ) → i < members list → length (words_at buffer list (length nodes) (length cells) i) ≡ answer_words
