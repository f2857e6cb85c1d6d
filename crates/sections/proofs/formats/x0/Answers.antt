use Rattle.grammar.specs.Sections.{X0}
use Rattle.layout.specs.Steps.{reads}
use Rattle.sections.proofs.formats.x0.Goals as goal

pub returns : goal.returns
unfolding X0
returns c = search reads depth 20
