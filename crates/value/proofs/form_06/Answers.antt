use Rattle.grammar.specs.Value.{Form06}
use Rattle.layout.specs.Steps.{reads}
use Rattle.value.proofs.form_06.Goals as goal

pub returns : goal.returns
unfolding Form06
returns c = search reads depth 20
