-- Calls with areas that are long enough, and calls with one that is too short.
use mathlib.Core.Path.{◌≡◌, refl, sym, ap, ◌∙◌}
use mathlib.Core.Bool.{true, false, not, true≢false}
use mathlib.Core.List.{List, [], ◌∷◌, ◌++◌}
use Prim.Native.Nat.{ℕ}
use native.Mathlib.Omega.{arith}
use lib.ListN.{length, drop}
use lib.Dec.{leb}
use Rattle.layout.specs.Step.{Step}
use Rattle.std.specs.Prelude.{Result, Ok, Err}
use Rattle.sizes.specs.Basics.{pick}
use Rattle.layout.specs.Words.{word32}
use Rattle.layout.specs.Laws.Words.{word_same}
use Rattle.store.specs.Puts.{PutsWordsTo}
use Rattle.store.specs.Laws.Puts.{with_room}
use Rattle.refusals.specs.declared.Refusal.{Refusal}
use Rattle.case_state.specs.declared.State.{State}
use Rattle.cases.specs.declared.Call.{Call}
use Rattle.cases.specs.Answers.{Answer, Placed, start_of, finish_of, Called}
use Rattle.case_state.proofs.Laws.Tests.{both}
use Rattle.cases_words.specs.StateWords.{state_words, state_words_of, state_of}
use Rattle.cases_words.specs.Calls.{short_answer, call_answer, answer_number, answer_place, answer_words_of, no_state, call_words, outcome, settled, roomy, Started, Fed, Ended}

pub state_room : (s a n : ℕ) → roomy s a n ≡ true → leb state_words s ≡ true
unfolding roomy
state_room s a n t = (both _ _ t).0

answer_room : (s a n : ℕ) → roomy s a n ≡ true → leb n a ≡ true
unfolding roomy
answer_room s a n t = (both _ _ t).1

-- words at the front of an area that is long enough
pub at_front : (n : ℕ) (xs b : List ℕ) {b' : List ℕ} {r : Step} → length xs ≡ n → leb n (length b) ≡ true → PutsWordsTo xs b (Ok 0) b' r → b' ≡ xs ++ drop n b
unfolding pick
at_front n xs b e t x = rw t at (with_room n xs b e t x).1

same_words : (s : Result State Refusal) → answer_words_of (outcome s) ≡ answer_words_of s
same_words (Ok s) = refl
same_words (Err e) = refl

pub placed_outcome : (s : Result State Refusal) → Placed s → Placed (outcome s)
placed_outcome (Ok s) p = p
placed_outcome (Err e) p = p

module _ (kinds : List ℕ) (bias : ℕ) (state answer : List ℕ) where
  pub started : (s : Result State Refusal) {state' answer' : List ℕ} {r : Step} → roomy (length state) (length answer) short_answer ≡ true → s ≡ start_of kinds bias
      → state' ≡ settled s state → PutsWordsTo (answer_words_of (outcome s)) answer (Ok 0) answer' r → Started kinds bias state answer short_answer state' answer'
  unfolding pick
  started s t e k x =
      record {
        gives = rw t;
        answers = rw (t, ← e) (at_front short_answer (answer_words_of (outcome s)) answer refl (answer_room (length state) (length answer) short_answer t) x
            ∙ ap (λ (ws : List ℕ). ws ++ drop short_answer answer) (same_words s));
        settles = rw (t, ← e) k;
      }

  pub not_started : roomy (length state) (length answer) short_answer ≡ false → Started kinds bias state answer 0 state answer
  unfolding pick
  not_started t = record { gives = rw t; answers = rw t; settles = rw t }

module _ (state input output answer : List ℕ) where
  pub fed : (c : Call) {state' output' answer' : List ℕ} {r : Step} → roomy (length state) (length answer) call_answer ≡ true → Called (state_of state) input output output' c
      → state' ≡ pick (not (no_state c.answer)) (state_words_of c.state ++ drop state_words state) state
      → PutsWordsTo (answer_number c.answer ∷ answer_place c.answer ∷ word32 c.taken ∷ word32 c.written ∷ []) answer (Ok 0) answer' r
      → Fed state input output answer call_answer state' output' answer'
  unfolding pick
  fed c t f k x =
      let a : word32 c.taken ≡ c.taken = word_same c.taken (omega (arith, f.taken_in)) in
      let b : word32 c.written ≡ c.written = word_same c.written (omega (arith, f.written_in)) in
      record {
        gives = rw t;
        answers = rw (t, ← f.is) (at_front call_answer (call_words c) answer refl (answer_room (length state) (length answer) call_answer t) (rw (a, b) at x));
        leaves = rw (t, ← f.is) k;
        writes = rw t f.output;
        called = λ _. rw f.is at f;
      }

  pub not_fed : roomy (length state) (length answer) call_answer ≡ false → Fed state input output answer 0 state output answer
  unfolding pick
  not_fed t = record { gives = rw t; answers = rw t; leaves = rw t; writes = rw t; called = λ u. absurd (true≢false (sym u ∙ t)) }

module _ (state answer : List ℕ) where
  pub ended : (a : Answer) {answer' : List ℕ} {r : Step} → roomy (length state) (length answer) short_answer ≡ true → a ≡ finish_of (state_of state)
      → PutsWordsTo (answer_words_of a) answer (Ok 0) answer' r → Ended state answer short_answer answer'
  unfolding pick
  ended a t e x =
      record {
        gives = rw t;
        answers = rw (t, ← e) (at_front short_answer (answer_words_of a) answer refl (answer_room (length state) (length answer) short_answer t) x);
      }

  pub not_ended : roomy (length state) (length answer) short_answer ≡ false → Ended state answer 0 answer
  unfolding pick
  not_ended t = record { gives = rw t; answers = rw t }
