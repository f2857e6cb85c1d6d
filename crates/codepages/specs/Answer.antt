-- What the caller gets of an outcome: how many bytes were written, or the refusal by number and place.
use Rattle.std.specs.Prelude.{ℕ, length, Result, Ok, Err}
use Rattle.convert.specs.Convert.{Outcome, refused, written}

-- "The length is returned" (document 02, T-08)
unfoldable pub answer : Outcome → Result ℕ (ℕ × ℕ)
answer (refused n p) = Err (n, p)
answer (written v) = Ok (length v)
