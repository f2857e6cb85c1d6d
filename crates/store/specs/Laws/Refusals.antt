-- Answers that are the same refusal.
use Rattle.std.specs.Prelude.{◌≡◌, ℕ, Ok, Err}
use Rattle.std.proofs.Common.{ap}
use Rattle.layout.specs.Step.{Step}

number_in : Step → ℕ
number_in (Ok at) = 0
number_in (Err (n, p)) = n

place_in : Step → ℕ
place_in (Ok at) = 0
place_in (Err (n, p)) = p

-- they have one number and one place
pub same_refusal : {m q n p : ℕ} → ◌≡◌ {A = Step} (Err (m, q)) (Err (n, p)) → (m ≡ n) × (q ≡ p)
unfolding number_in place_in
same_refusal e = (ap number_in e, ap place_in e)
