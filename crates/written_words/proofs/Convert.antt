-- A call that converted a text, and one whose area for the answer was too short.
use mathlib.Core.Path.{◌≡◌, refl}
use mathlib.Core.Bool.{true, false}
use mathlib.Core.List.{List}
use Prim.Native.Nat.{ℕ}
use lib.ListN.{length}
use lib.Dec.{leb}
use Rattle.sizes.specs.Sizes.{write_answer_words}
use Rattle.std.specs.Prelude.{Result}
use Rattle.sizes.specs.Basics.{pick}
use Rattle.store.specs.Puts.{AtFront}
use Rattle.store.specs.Laws.Puts.{without_room}
use Rattle.codepages.specs.Answer.{answer as answer_of}
use Rattle.convert.specs.Convert.{Outcome, refused, written, after}
use Rattle.written_words.specs.Encodings.{answer_words, outcome_words, Converted}

words_same : (o : Outcome) → answer_words (answer_of o) ≡ outcome_words o
unfolding answer_of outcome_words
words_same (refused n p) = refl
words_same (written v) = refl

module _ (o : Outcome) (out answer : List ℕ) where
  pub with_answer : (a : Result ℕ (ℕ × ℕ)) {n : ℕ} {out' answer' : List ℕ} → leb write_answer_words (length answer) ≡ true → (a ≡ answer_of o) × (out' ≡ after o out)
      → AtFront write_answer_words (answer_words a) answer n answer' → Converted o out answer n out' answer'
  unfolding pick
  with_answer a t e x = record { words = rw (e.0, words_same o) at x; out_area = rw t e.1 }

  pub without_answer : leb write_answer_words (length answer) ≡ false → Converted o out answer 0 out answer
  unfolding pick
  without_answer t = record { words = without_room write_answer_words (outcome_words o) answer t; out_area = rw t }
