use Rattle.grammar.specs.Value.{Form04}
use Rattle.layout.specs.Steps.{reads}
use Rattle.value.proofs.form_04.Goals as goal

pub returns : goal.returns
unfolding Form04
returns c = search reads depth 20
