-- What reading a look answers, as definitions have it: a refusal is its number and its place.
use Rattle.std.specs.Prelude.{ℕ, Result}
use Rattle.look.specs.declared.Look.{Look}

abbrev pub Answer : Type 0
Answer = Result Look (ℕ × ℕ)
