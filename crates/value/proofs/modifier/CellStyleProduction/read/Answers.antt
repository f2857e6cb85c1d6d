use Rattle.grammar.specs.Value.{CellStyle}
use Rattle.layout.specs.Steps.{reads}
use Rattle.value.proofs.modifier.CellStyleProduction.read.Goals as goal

pub returns : goal.returns
unfolding CellStyle
returns c = search reads depth 20
