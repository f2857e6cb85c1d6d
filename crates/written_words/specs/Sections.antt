-- The sections of a look that were written, as 32-bit words in a lent area.
use Rattle.std.specs.Prelude.{◌≡◌, true, false, List, ℕ, length, leb}
use Rattle.sizes.specs.Sizes.{write_answer_words}
use Rattle.store.specs.Written.{Written}
use Rattle.store.specs.Puts.{AtFront}
use Rattle.store.specs.Deliver as store
use Rattle.look_sections.specs.Writing.{Wrote}
use Rattle.written_words.specs.Looks.{step_words}

-- what was written is that of `look_sections`, and the answer has its three words
pub record Answered (s out answer : List ℕ) (n : ℕ) (out' answer' : List ℕ) : Type 0 where
  pub written : Written
  pub wrote : Wrote s out written out'
  pub words : AtFront write_answer_words (step_words (store.answer written)) answer n answer'

-- a call of `digarumbi_look_sections`, which gave n: where `answer` is shorter, nothing is read and nothing changes
pub record Sectioned (s out answer : List ℕ) (n : ℕ) (out' answer' : List ℕ) : Type 0 where
  pub asked : leb write_answer_words (length answer) ≡ true → Answered s out answer n out' answer'
  pub not_asked : leb write_answer_words (length answer) ≡ false → (n ≡ 0) × (out' ≡ out) × (answer' ≡ answer)
