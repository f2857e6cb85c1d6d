use mathlib.Core.Path.{refl}
use Rattle.layout.specs.Steps.Runs.{begins, leading_of}
use Rattle.grammar.specs.Value.{Value, ValueIn}
use Rattle.sections.proofs.titles.marked_value.Goals as goal

pub returns : goal.returns
unfolding begins Value ValueIn
returns c = leading_of refl c.value.ensures c.skip.ensures
