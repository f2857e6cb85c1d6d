use Rattle.grammar.specs.Sections.{X1}
use Rattle.layout.specs.Steps.{reads}
use Rattle.sections.proofs.formats.x1.Goals as goal

pub returns : goal.returns
unfolding X1
returns c = search reads depth 20
