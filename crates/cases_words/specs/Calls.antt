-- What the functions for other languages give and leave in the lent areas, of any length (document 02, T-05).
use Rattle.std.specs.Prelude.{◌≡◌, Bool, true, false, not, List, [], ◌∷◌, ◌++◌, ℕ, length, drop, eqb, leb, Result, Ok, Err}
use Rattle.sizes.specs.Basics.{pick}
use Rattle.refusals.specs.declared.Refusal.{Refusal}
use Rattle.refusals.specs.Numbers.{number}
use Rattle.case_state.specs.declared.State.{State}
use Rattle.cases.specs.declared.Call.{Call}
use Rattle.cases.specs.Answers.{Answer, start_of, call_of, output_of, finish_of, Called}
use Rattle.cases_words.specs.StateWords.{state_words, state_words_of, state_of}

-- the words of an answer
abbrev pub short_answer : ℕ
short_answer = 2

abbrev pub call_answer : ℕ
call_answer = 4

-- the number of a refusal; 0 for none
abbrev pub answer_number : {A : Type 0} → Result A Refusal → ℕ
answer_number (Ok x) = 0
answer_number (Err e) = number e.reason

abbrev pub answer_place : {A : Type 0} → Result A Refusal → ℕ
answer_place (Ok x) = 0
answer_place (Err e) = e.place

abbrev pub answer_words_of : {A : Type 0} → Result A Refusal → List ℕ
answer_words_of a = answer_number a ∷ answer_place a ∷ []

-- whether it is 21
abbrev pub no_state : Answer → Bool
no_state a = eqb (answer_number a) 21

-- a call: also the bytes taken and the elements written
abbrev pub call_words : Call → List ℕ
call_words r = answer_number r.answer ∷ answer_place r.answer ∷ r.taken ∷ r.written ∷ []

-- "0 with nothing changed where `answer` or `state` is too short"
unfoldable pub roomy : ℕ → ℕ → ℕ → Bool
roomy state answer n = pick (leb state_words state) (leb n answer) false

-- n words at the front of an area, where that is so
abbrev pub front : Bool → ℕ → List ℕ → List ℕ → List ℕ
front so n xs b = pick so (xs ++ drop n b) b

-- what a start answers
abbrev pub outcome : Result State Refusal → Answer
outcome (Ok s) = Ok tt
outcome (Err e) = Err e

-- the words of the state of a start, unless it is refused
abbrev pub settled : Result State Refusal → List ℕ → List ℕ
settled (Ok s) ws = state_words_of s ++ drop state_words ws
settled (Err e) ws = ws

-- a call of `start_words`, which gave n: the state is settled unless the start is refused
pub record Started (kinds : List ℕ) (bias : ℕ) (state answer : List ℕ) (n : ℕ) (state' answer' : List ℕ) : Type 0 where
  pub gives : n ≡ pick (roomy (length state) (length answer) short_answer) short_answer 0
  pub answers : answer' ≡ front (roomy (length state) (length answer) short_answer) short_answer (answer_words_of (start_of kinds bias)) answer
  pub settles : state' ≡ pick (roomy (length state) (length answer) short_answer) (settled (start_of kinds bias) state) state

-- of `feed_words`: a state that is 21 stays as it is
pub record Fed (state input output answer : List ℕ) (n : ℕ) (state' output' answer' : List ℕ) : Type 0 where
  pub gives : n ≡ pick (roomy (length state) (length answer) call_answer) call_answer 0
  pub answers : answer' ≡ front (roomy (length state) (length answer) call_answer) call_answer (call_words (call_of (state_of state) input (length output))) answer
  pub leaves : state' ≡ pick (roomy (length state) (length answer) call_answer)
      (front (not (no_state (call_of (state_of state) input (length output)).answer)) state_words (state_words_of (call_of (state_of state) input (length output)).state) state) state
  pub writes : output' ≡ pick (roomy (length state) (length answer) call_answer) (output_of (state_of state) input output) output
  -- it is a call of `feed`: what it leaves stands for the machine's state, and is no state that is 21
  pub called : roomy (length state) (length answer) call_answer ≡ true → Called (state_of state) input output output' (call_of (state_of state) input (length output))

-- of `end_words`
pub record Ended (state answer : List ℕ) (n : ℕ) (answer' : List ℕ) : Type 0 where
  pub gives : n ≡ pick (roomy (length state) (length answer) short_answer) short_answer 0
  pub answers : answer' ≡ front (roomy (length state) (length answer) short_answer) short_answer (answer_words_of (finish_of (state_of state))) answer
