-- A call that read a member, and one whose area for the answer was too short.
use mathlib.Core.Path.{◌≡◌, sym, ◌∙◌}
use mathlib.Core.Bool.{true, false, true≢false}
use mathlib.Core.List.{List}
use Prim.Native.Nat.{ℕ}
use native.Mathlib.Omega.{arith}
use lib.ListN.{length}
use lib.Dec.{leb}
use Rattle.sizes.specs.Sizes.{answer_words}
use Rattle.layout.specs.Step.{Step}
use Rattle.std.specs.Prelude.{Ok}
use Rattle.sizes.specs.Basics.{pick}
use Rattle.layout.specs.Words.{word32}
use Rattle.layout.specs.Laws.Words.{word_same}
use Rattle.answer.specs.declared.Answer.{Answer}
use Rattle.grammar.specs.Laws.Member.Checked.{checked}
use Rattle.answer.specs.Answer.{answer_of, Delivered}
use Rattle.answer.specs.Demand3.{Demand3}
use Rattle.store.specs.Puts.{PutsWordsTo}
use Rattle.store.specs.Laws.Puts.{with_room, without_room}
use Rattle.member_words.specs.MemberWords.{answer_words_of, MemberRead}

module _ (member answer nodes cells : List ℕ) where
  pub with_answer : (a : Answer) {answer' nodes' cells' : List ℕ} {r : Step} → leb answer_words (length answer) ≡ true → Delivered (checked member) nodes cells a nodes' cells'
      → Demand3 member nodes cells a nodes' cells' → PutsWordsTo (answer_words_of (word32 a.place) a) answer (Ok 0) answer' r → length (answer_words_of (word32 a.place) a) ≡ answer_words
      → MemberRead member answer nodes cells answer_words answer' nodes' cells'
  unfolding pick
  with_answer a t d m x l =
      let p : word32 a.place ≡ a.place = word_same a.place (omega (arith, m.place.1)) in
      record {
        words = rw (← d.answer) (with_room answer_words (answer_words_of a.place a) answer (rw p at l) t (rw p at x));
        node_area = rw t d.node_area;
        cell_area = rw t d.cell_area;
        demands = λ _. rw d.answer at m;
      }

  pub without_answer : leb answer_words (length answer) ≡ false → MemberRead member answer nodes cells 0 answer nodes cells
  unfolding pick
  without_answer t =
      record {
        words = let a = answer_of (checked member) (length nodes) (length cells) in without_room answer_words (answer_words_of a.place a) answer t;
        node_area = rw t;
        cell_area = rw t;
        demands = λ u. absurd (true≢false (sym u ∙ t));
      }
