use Rattle.grammar.specs.Sections.{Borders}
use Rattle.layout.specs.Steps.{reads}
use Rattle.sections.proofs.borders.borders.Goals as goal

pub returns : goal.returns
unfolding Borders
returns c = search reads depth 20
