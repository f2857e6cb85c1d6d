-- What reading a symbol gives, as definitions have it: a refusal is its number and its place.
use Rattle.std.specs.Prelude.{ℕ, Result}

-- the next position, or a refusal
abbrev pub Step : Type 0
Step = Result ℕ (ℕ × ℕ)

-- where a counted part lies, from its first byte to past its last; or a refusal
abbrev pub Span : Type 0
Span = Result (ℕ × ℕ) (ℕ × ℕ)
