-- What writing answers, as definitions have it: a refusal is its number and its place.
use Rattle.std.specs.Prelude.{ℕ, Result}

-- how many bytes were written, or a refusal
abbrev pub Written : Type 0
Written = Result ℕ (ℕ × ℕ)
