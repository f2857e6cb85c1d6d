use Rattle.fields.specs.Laws.Gives.{gives}
use Rattle.look.proofs.section.quoted.Goals as goal

pub returns : goal.returns
returns c = search gives depth 20
