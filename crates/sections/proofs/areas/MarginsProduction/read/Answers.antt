use Rattle.grammar.specs.Sections.{AreaMargins}
use Rattle.layout.specs.Steps.{reads}
use Rattle.sections.proofs.areas.MarginsProduction.read.Goals as goal

pub returns : goal.returns
unfolding AreaMargins
returns c = search reads depth 20
