-- The answers of a text that is refused, and of one that is written.
use Rattle.std.proofs.Common.{◌≡◌, refl, ap, ℕ, ◌<◌, List, length, Err, arith}
use Rattle.refusals.specs.declared.Refusal.{Refusal}
use Rattle.refusals.specs.declared.Reason.TheVariants.{OutputTooShort}
use Rattle.refusals.specs.Numbers.{number, by_number}
use Rattle.convert.specs.Convert.{Step, Outcome, refused, unknown_page, no_character, output_short, outcome, converted, after, valid_up_to, output}
use Rattle.codepages.specs.Answer.{answer}
use Rattle.codepages.specs.Found.{MeasuredAs, KnownPage}
use Rattle.codepages.specs.Laws.Passes.{Counts}
use Rattle.codepages.specs.Laws.Answers.{has_none, is_short}

answers_err : (s : Outcome) (o : List ℕ) (n p : ℕ) (e : Refusal) → s ≡ refused n p → number e.reason ≡ n → e.place ≡ p → (by_number {A = ℕ} (Err e) ≡ answer s) × (o ≡ after s o)
unfolding answer after
answers_err s o n p e q x y = rw (q, ← x, ← y) (refl, refl)

pub measured_err : (f : List ℕ → Step) (room : ℕ) (u o : List ℕ) (e : Refusal) → MeasuredAs f room u (Err e) → (by_number {A = ℕ} (Err e) ≡ answer (outcome f room u)) × (o ≡ after (outcome f room u) o)
measured_err f room u o e m =
    let n = length (output f 0 u) in
    let t = has_none f room u e.place n (m.2, record { exact = λ _. refl; over = λ h. h }) m.1 in
    answers_err (outcome f room u) o no_character e.place e t (ap number m.0) refl

pub short_err : (f : List ℕ → Step) (room : ℕ) (u o : List ℕ) (n : ℕ) (e : Refusal) → (length u ≡ valid_up_to f 0 0 u) × Counts room n (length (output f 0 u)) → room < n → (e.reason ≡ OutputTooShort) × (e.place ≡ 0)
    → (by_number {A = ℕ} (Err e) ≡ answer (outcome f room u)) × (o ≡ after (outcome f room u) o)
short_err f room u o n e t l r = answers_err (outcome f room u) o output_short 0 e (is_short f room u (length u) n t (omega arith) l) (ap number r.0) r.1

pub known_err : (f : ℕ → List ℕ → Step) (page room : ℕ) (u o : List ℕ) (e : Refusal) → KnownPage page (Err e) → (by_number {A = ℕ} (Err e) ≡ answer (converted f page room u)) × (o ≡ after (converted f page room u) o)
known_err f page room u o e k = answers_err (converted f page room u) o unknown_page 0 e (k.2 f room u) (ap number k.0) k.1
