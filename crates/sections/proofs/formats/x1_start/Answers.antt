use Rattle.grammar.specs.Sections.{X1Start}
use Rattle.layout.specs.Steps.{reads}
use Rattle.sections.proofs.formats.x1_start.Goals as goal

pub returns : goal.returns
unfolding X1Start
returns c = search reads depth 20
