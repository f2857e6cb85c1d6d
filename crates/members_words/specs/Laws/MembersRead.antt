-- The loop over the members of a list: what one turn leaves, and all of them.
use Rattle.std.specs.Prelude.{◌≡◌, List, ℕ, ◌+◌, ◌*◌, ◌≤◌, ◌<◌, length}
use Rattle.std.proofs.Common.{arith}
use Rattle.sizes.specs.Sizes.{answer_words}
use Rattle.answer.specs.declared.Answer.{Answer}
use Rattle.members.specs.Members.{members, member_at, with_share, InShare}
use Rattle.members.specs.Laws.Shares.{Filled, none_filled, same_length, one_more}
use Rattle.members.specs.Laws.Turns.{UpTo, none_read, its_answer, one_more_read}
use Rattle.member_words.specs.MemberWords.{answer_words_of}
use Rattle.members_words.specs.Members.{words_at}

-- member i alone is read: its answer's words stand in their place, and nothing else changes but its shares
pub record OneRead (buffer list : List ℕ) (i : ℕ) (answers nodes cells answers' nodes' cells' : List ℕ) : Type 0 where
  pub answer : Answer
  pub shares : InShare (member_at buffer list i) (members list) i nodes cells answer nodes' cells'
  pub words : answers' ≡ with_share answer_words i answers (answer_words_of answer.place answer)
  pub width : length (answer_words_of answer.place answer) ≡ answer_words

-- the members before i are read
pub record ReadTo (buffer list answers nodes cells : List ℕ) (i : ℕ) (answers' nodes' cells' : List ℕ) : Type 0 where
  pub areas : UpTo buffer list nodes cells i nodes' cells'
  pub words : Filled answer_words (words_at buffer list (length nodes) (length cells)) answers i answers'

-- all are
abbrev pub AllRead : List ℕ → List ℕ → List ℕ → List ℕ → List ℕ → List ℕ → List ℕ → List ℕ → Type 0
AllRead buffer list answers nodes cells answers' nodes' cells' = ReadTo buffer list answers nodes cells (members list) answers' nodes' cells'

pub read_none : (buffer list answers nodes cells : List ℕ) → ReadTo buffer list answers nodes cells 0 answers nodes cells
read_none buffer list answers nodes cells = record { areas = none_read buffer list nodes cells; words = none_filled _ _ answers }

pub read_next : {buffer list answers nodes cells : List ℕ} {i : ℕ} {answers' nodes' cells' : List ℕ} → ReadTo buffer list answers nodes cells i answers' nodes' cells'
    → i < members list → {answers'' nodes'' cells'' : List ℕ} → OneRead buffer list i answers' nodes' cells' answers'' nodes'' cells''
    → ReadTo buffer list answers nodes cells (i + 1) answers'' nodes'' cells''
unfolding words_at
read_next x h y =
    let e = its_answer x.areas h y.shares in
    record {
      areas = one_more_read x.areas h y.shares;
      words = one_more x.words (rw e at y.width) (rw e at y.words);
    }

module _ {buffer list answers nodes cells : List ℕ} {i : ℕ} {answers' nodes' cells' : List ℕ} (x : ReadTo buffer list answers nodes cells i answers' nodes' cells')
    (room : answer_words * members list ≤ length answers) where
  pub same_words_length : i ≤ members list → length answers' ≡ length answers
  same_words_length h = same_length x.words (omega arith)

  pub room_next : i < members list → answer_words * i + answer_words ≤ length answers'
  room_next h = omega (arith, same_words_length (omega arith))

pub read_to_end : {buffer list answers nodes cells : List ℕ} {i : ℕ} {answers' nodes' cells' : List ℕ} → ReadTo buffer list answers nodes cells i answers' nodes' cells'
    → i ≤ members list → members list ≤ i → AllRead buffer list answers nodes cells answers' nodes' cells'
read_to_end {list = list} {i = i} x h l = let e : i ≡ members list = omega arith in rw e at x
