use Rattle.grammar.specs.Value.{Form05}
use Rattle.layout.specs.Steps.{reads}
use Rattle.value.proofs.form_05.Goals as goal

pub returns : goal.returns
unfolding Form05
returns c = search reads depth 20
