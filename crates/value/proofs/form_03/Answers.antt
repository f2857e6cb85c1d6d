use Rattle.grammar.specs.Value.{Form03}
use Rattle.layout.specs.Steps.{reads}
use Rattle.value.proofs.form_03.Goals as goal

pub returns : goal.returns
unfolding Form03
returns c = search reads depth 20
