use Rattle.grammar.specs.Value.{Form01}
use Rattle.layout.specs.Steps.{reads}
use Rattle.value.proofs.form_01.Goals as goal

pub returns : goal.returns
unfolding Form01
returns c = search reads depth 20
