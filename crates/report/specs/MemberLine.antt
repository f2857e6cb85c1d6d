-- What document 01's test program prints of a member's bytes.
use Rattle.std.specs.Prelude.{ℕ, List, replicate}
use Rattle.sizes.specs.Sizes.{node_area, cell_area}
use Rattle.answer.specs.declared.Answer.{Answer}
use Rattle.answer.specs.Demand3.{Demand3}
use Rattle.report.specs.Text.{Printed}
use Rattle.report.specs.Lines.{line_of, line_bytes}

-- the line of an answer as demand 3 has it, with areas that are lent
pub record MemberLineIn (s nodes cells nodes' cells' b b' : List ℕ) (r : ℕ) : Type 0 where
  pub answer : Answer
  pub demands : Demand3 s nodes cells answer nodes' cells'
  pub line : Printed line_bytes (line_of answer) b b' r

-- the same with areas of zeros that suffice for every member
pub record MemberLine (s b b' : List ℕ) (r : ℕ) : Type 0 where
  pub answer : Answer
  pub nodes : List ℕ
  pub cells : List ℕ
  pub demands : Demand3 s (replicate node_area 0) (replicate cell_area 0) answer nodes cells
  pub line : Printed line_bytes (line_of answer) b b' r
