use Rattle.grammar.specs.Sections.{Y0}
use Rattle.layout.specs.Steps.{reads}
use Rattle.sections.proofs.formats.y0.Goals as goal

pub returns : goal.returns
unfolding Y0
returns c = search reads depth 20
