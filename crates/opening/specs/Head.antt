-- What the Header, and the sections after it, give: the version of a member and the place after what was read; or a refusal, by its number and place.
use Rattle.std.specs.Prelude.{ℕ, Result}

abbrev pub Head : Type 0
Head = Result (ℕ × ℕ) (ℕ × ℕ)
