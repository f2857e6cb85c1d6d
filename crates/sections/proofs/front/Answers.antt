use Rattle.grammar.specs.Sections.{Front}
use Rattle.layout.specs.Steps.{reads}
use Rattle.sections.proofs.front.Goals as goal

pub returns : goal.returns
unfolding Front
returns c = search reads depth 20
