-- What the code answers, as the definitions have it.
use Rattle.std.specs.Prelude.{ℕ, Result, Ok, Err}
use Rattle.refusals.specs.declared.Reason.{Reason}
use Rattle.refusals.specs.Numbers.{number}
use Rattle.position.specs.declared.Position as code
use Rattle.position.specs.Answers.{Position, CellIndex, at, no_position_answer, found, no_index_answer}

abbrev pub position_view : Result code.Position Reason → Position
position_view (Ok p) = at p.layer p.row p.column
position_view (Err r) = no_position_answer (number r)

abbrev pub index_view : Result ℕ Reason → CellIndex
index_view (Ok k) = found k
index_view (Err r) = no_index_answer (number r)
