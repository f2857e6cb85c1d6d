use Rattle.grammar.specs.Value.{Value}
use Rattle.value.proofs.value.Goals as goal

pub returns : goal.returns
unfolding Value
returns c = c.value_in.ensures
