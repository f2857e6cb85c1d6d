-- Two equal refusals have one number and one place.
use Rattle.std.specs.Prelude.{◌≡◌, ℕ, Ok, Err}
use Rattle.std.proofs.Common.{ap}
use Rattle.layout.specs.Step.{Step}

abbrev number_in : Step → ℕ
number_in (Ok p) = 0
number_in (Err (n, p)) = n

abbrev place_in : Step → ℕ
place_in (Ok p) = 0
place_in (Err (n, p)) = p

pub same_number : {n p m q : ℕ} → ◌≡◌ {A = Step} (Err (n, p)) (Err (m, q)) → n ≡ m
same_number e = ap number_in e

pub same_place : {n p m q : ℕ} → ◌≡◌ {A = Step} (Err (n, p)) (Err (m, q)) → p ≡ q
same_place e = ap place_in e
