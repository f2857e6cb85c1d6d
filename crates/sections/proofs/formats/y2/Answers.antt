use Rattle.grammar.specs.Sections.{Y2}
use Rattle.layout.specs.Steps.{reads}
use Rattle.sections.proofs.formats.y2.Goals as goal

pub returns : goal.returns
unfolding Y2
returns c = search reads depth 20
