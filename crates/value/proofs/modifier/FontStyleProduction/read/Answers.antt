use Rattle.grammar.specs.Value.{FontStyle}
use Rattle.layout.specs.Steps.{reads}
use Rattle.value.proofs.modifier.FontStyleProduction.read.Goals as goal

pub returns : goal.returns
unfolding FontStyle
returns c = search reads depth 20
