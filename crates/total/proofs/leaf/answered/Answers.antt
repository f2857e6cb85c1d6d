use Rattle.std.proofs.Common.{◌∙◌}
use Rattle.total.proofs.leaf.answered.Goals as goal

pub returns-in-Some : goal.returns-in-Some
returns-in-Some c = rw c.in-Some.is (c.refused.ensures ∙ rw c.number.ensures)

pub returns-in-None : goal.returns-in-None
returns-in-None c = rw c.in-None.is
