use Rattle.grammar.specs.Sections.{AreaColors}
use Rattle.layout.specs.Steps.{reads}
use Rattle.sections.proofs.areas.colors.Goals as goal

pub returns : goal.returns
unfolding AreaColors
returns c = search reads depth 20
