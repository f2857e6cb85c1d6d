-- A call that read a Value or an Argument, and one whose area for the answer was too short.
use mathlib.Core.Path.{◌≡◌, refl}
use mathlib.Core.Bool.{true, false, false≢true}
use mathlib.Core.List.{List}
use Prim.Native.Nat.{ℕ}
use lib.ListN.{length}
use lib.Dec.{leb}
use Rattle.sizes.specs.Sizes.{value_answer_words, argument_answer_words}
use Rattle.layout.specs.Step.{Step}
use Rattle.std.specs.Prelude.{Ok}
use Rattle.contents.specs.Said.{Contents}
use Rattle.contents.specs.Said.{Argument}
use Rattle.contents.specs.Answers.{ValueAnswers, ArgumentAnswers, refused, refused_argument_answer}
use Rattle.store.specs.Puts.{PutsWordsTo}
use Rattle.store.specs.Laws.Puts.{with_room, without_room}
use Rattle.value_words.specs.Values.{value_words, argument_words, ValueRead, ArgumentRead}

module _ (version : ℕ) (bytes answer : List ℕ) where
  pub with_value : (x : Contents) {answer' : List ℕ} {r : Step} → leb value_answer_words (length answer) ≡ true → ValueAnswers version bytes x → PutsWordsTo (value_words x) answer (Ok 0) answer' r
      → ValueRead version bytes answer value_answer_words answer'
  unfolding value_words
  with_value x t a p = record { contents = x; is_read = λ _. a; words = with_room value_answer_words (value_words x) answer refl t p }

  pub without_value : leb value_answer_words (length answer) ≡ false → ValueRead version bytes answer 0 answer
  without_value t = record {
    contents = refused 0 0;
    is_read = λ e. absurd (false≢true (rw t at e));
    words = without_room value_answer_words (value_words (refused 0 0)) answer t;
  }

  pub with_argument : (x : Argument) {answer' : List ℕ} {r : Step} → leb argument_answer_words (length answer) ≡ true → ArgumentAnswers version bytes x
      → PutsWordsTo (argument_words x) answer (Ok 0) answer' r → ArgumentRead version bytes answer argument_answer_words answer'
  with_argument x t a p = record { contents = x; is_read = λ _. a; words = with_room argument_answer_words (argument_words x) answer refl t p }

  pub without_argument : leb argument_answer_words (length answer) ≡ false → ArgumentRead version bytes answer 0 answer
  without_argument t = record {
    contents = refused_argument_answer 0 0;
    is_read = λ e. absurd (false≢true (rw t at e));
    words = without_room argument_answer_words (argument_words (refused_argument_answer 0 0)) answer t;
  }
