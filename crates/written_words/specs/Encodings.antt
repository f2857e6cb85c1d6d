-- What the functions for other languages give of text in old code pages (document 02, T-08).
use Rattle.std.specs.Prelude.{◌≡◌, List, [], ◌∷◌, ℕ, length, leb, Result, Ok, Err}
use Rattle.sizes.specs.Sizes.{write_answer_words}
use Rattle.sizes.specs.Basics.{pick}
use Rattle.layout.specs.Words.{word32}
use Rattle.store.specs.Puts.{AtFront}
use Rattle.convert.specs.Convert.{Outcome, refused, written, after}

-- three words, as of a look that is written (our rule): the refusal, 0 if there is none, its place, and the length; of a place and a length the lowest 32 bits, which is all of them for a text and an output
-- of less than 4 GiB (`place_kept` and `length_kept` in Laws/Encodings.antt)
unfoldable pub outcome_words : Outcome → List ℕ
outcome_words (refused n p) = n ∷ word32 p ∷ 0 ∷ []
outcome_words (written v) = 0 ∷ 0 ∷ word32 (length v) ∷ []

-- the words of an answer: the length, or the refusal and its place
abbrev pub answer_words : Result ℕ (ℕ × ℕ) → List ℕ
answer_words (Ok n) = 0 ∷ 0 ∷ word32 n ∷ []
answer_words (Err (n, p)) = n ∷ word32 p ∷ 0 ∷ []

-- a call whose outcome is o, and which gave n
pub record Converted (o : Outcome) (out answer : List ℕ) (n : ℕ) (out' answer' : List ℕ) : Type 0 where
  pub words : AtFront write_answer_words (outcome_words o) answer n answer'
  pub out_area : out' ≡ pick (leb write_answer_words (length answer)) (after o out) out
