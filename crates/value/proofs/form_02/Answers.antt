use Rattle.grammar.specs.Value.{Form02}
use Rattle.layout.specs.Steps.{reads}
use Rattle.value.proofs.form_02.Goals as goal

pub returns : goal.returns
unfolding Form02
returns c = search reads depth 20
