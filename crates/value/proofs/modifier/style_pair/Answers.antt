use Rattle.grammar.specs.Value.{StylePair}
use Rattle.layout.specs.Steps.{reads}
use Rattle.value.proofs.modifier.style_pair.Goals as goal

pub returns : goal.returns
unfolding StylePair
returns c = search reads depth 20
