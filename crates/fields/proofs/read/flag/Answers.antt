use Rattle.fields.specs.Laws.Gives.{bool_gives}
use Rattle.fields.proofs.read.flag.Goals as goal

pub returns : goal.returns
returns c = bool_gives c.in_ok-at.ensures c.peek.ensures
