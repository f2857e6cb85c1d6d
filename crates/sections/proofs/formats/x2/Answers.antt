use Rattle.grammar.specs.Sections.{X2}
use Rattle.layout.specs.Steps.{reads}
use Rattle.sections.proofs.formats.x2.Goals as goal

pub returns : goal.returns
unfolding X2
returns c = search reads depth 20
