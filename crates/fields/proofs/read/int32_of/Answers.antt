use Rattle.fields.specs.Laws.Gives.{fixed_gives}
use Rattle.fields.proofs.read.int32_of.Goals as goal

pub returns : goal.returns
returns c = fixed_gives c.fixed.ensures
