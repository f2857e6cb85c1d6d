use Rattle.grammar.specs.Value.{Modifiers}
use Rattle.layout.specs.Steps.{reads}
use Rattle.value.proofs.modifier.modifiers_at.Goals as goal

pub returns : goal.returns
unfolding Modifiers
returns c = search reads depth 20
