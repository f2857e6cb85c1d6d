-- What the content of a part gave, in the bytes that the part is of: a place in the part is moved on by its start b (and would not be moved past
-- its end e).
use Rattle.std.specs.Prelude.{ℕ, ◌+◌, min, Ok, Err}
use Rattle.layout.specs.Step.{Step}

abbrev pub placed : ℕ → ℕ → Step → Step
placed b e (Ok p) = Ok (min (b + p) e)
placed b e (Err (r, p)) = Err (r, min (b + p) e)
