use Rattle.fields.specs.Laws.Gives.{number_gives}
use Rattle.fields.proofs.read.double.Goals as goal

pub returns : goal.returns
returns c = number_gives c.in_ok-at.ensures.low c.peek.ensures
