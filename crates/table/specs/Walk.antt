-- What a walk gives, as definitions have it: a refusal is its number and its place.
use Rattle.std.specs.Prelude.{ℕ, Result, Ok, Err}
use Rattle.refusals.specs.declared.Refusal.{Refusal}
use Rattle.refusals.specs.Numbers.{number}
use Rattle.table.specs.declared.progress.Reached.{Reached}

-- the next position and how many records there are, or a refusal
abbrev pub Walk : Type 0
Walk = Result (ℕ × ℕ) (ℕ × ℕ)

-- of what the code gives
abbrev pub walk_of : Result Reached Refusal → Walk
walk_of (Ok r) = Ok (r.at, r.used)
walk_of (Err e) = Err (number e.reason, e.place)
