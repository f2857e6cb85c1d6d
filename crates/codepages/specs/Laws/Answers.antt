-- The order of the refusals, as the code tests for them, and the answers.
use Rattle.std.specs.Prelude.{◌≡◌, refl, List, ◌++◌, ℕ, ◌≤◌, ◌<◌, length, drop, Result, Ok}
use Rattle.std.proofs.Common.{arith}
use borrow.Author.Tests.{lt-ltb, le-ltb}
use Rattle.sizes.specs.Basics.{pick}
use Rattle.convert.specs.Convert.{Step, valid_up_to, output, no_character, output_short, Outcome, refused, written, outcome, after}
use Rattle.convert.proofs.Laws.Steps.{up_to_most}
use Rattle.codepages.specs.Answer.{answer}
use Rattle.codepages.specs.Laws.Passes.{Counts}

module _ (f : List ℕ → Step) (room : ℕ) (u : List ℕ) (p n : ℕ) (t : (p ≡ valid_up_to f 0 0 u) × Counts room n (length (output f 0 u))) where
  pub has_none : p < length u → outcome f room u ≡ refused no_character p
  unfolding outcome pick
  has_none h = rw (← t.0, lt-ltb p (length u) h)

  pub is_short : length u ≤ p → room < n → outcome f room u ≡ refused output_short 0
  unfolding outcome pick
  is_short h l = rw (← t.0, le-ltb p (length u) h, lt-ltb room (length (output f 0 u)) (t.1.over l))

  pub is_written : length u ≤ p → n ≤ room → outcome f room u ≡ written (output f 0 u)
  unfolding outcome pick
  is_written h l = rw (← t.0, le-ltb p (length u) h, le-ltb room (length (output f 0 u)) (omega (arith, t.1.exact l)))

  -- then the second pass may begin
  pub may_write : length u ≤ p → n ≤ room → (valid_up_to f 0 0 u ≡ length u) × (length (output f 0 u) ≤ room)
  may_write h l = (omega (arith, t.0, up_to_most f 0 0 u), omega (arith, t.1.exact l))

pub answers_refused : (s : Outcome) (o : List ℕ) (n p : ℕ) (a : Result ℕ (ℕ × ℕ)) → s ≡ refused n p → a ≡ answer (refused n p) → (a ≡ answer s) × (o ≡ after s o)
unfolding after
answers_refused s o n p a e g = rw e (g, refl)

pub answers_written : (s : Outcome) (o o' v : List ℕ) (n : ℕ) → s ≡ written v → n ≡ length v → o' ≡ v ++ drop (length v) o
    → (◌≡◌ {A = Result ℕ (ℕ × ℕ)} (Ok n) (answer s)) × (o' ≡ after s o)
unfolding answer after
answers_written s o o' v n e g h = rw (e, g) (refl, h)

-- the answer for an outcome that is the same
pub answers_same : (s t : Outcome) (o o' : List ℕ) (a : Result ℕ (ℕ × ℕ)) → s ≡ t → (a ≡ answer t) × (o' ≡ after t o) → (a ≡ answer s) × (o' ≡ after s o)
answers_same s t o o' a e g = rw e g
