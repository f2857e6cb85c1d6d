use Rattle.grammar.specs.Sections.{Y1}
use Rattle.layout.specs.Steps.{reads}
use Rattle.sections.proofs.formats.y1.Goals as goal

pub returns : goal.returns
unfolding Y1
returns c = search reads depth 20
