-- A call is its steps, to the end: each makes the weight smaller.
use Rattle.std.specs.Prelude.{List, ℕ, ◌+◌, ◌*◌, length}
use Rattle.case_stream.specs.Machine.{State, weight}

-- the weight of what is left: of the bytes that follow and of the state
abbrev pub μ : State → List ℕ → ℕ
μ t s = 10 * length s + weight t
