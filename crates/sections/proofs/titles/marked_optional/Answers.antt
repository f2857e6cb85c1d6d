use mathlib.Core.Path.{refl}
use Rattle.layout.specs.Steps.Runs.{begins, leading_of}
use Rattle.sections.proofs.titles.marked_optional.Goals as goal

pub returns : goal.returns
unfolding begins
returns c = leading_of refl c.optional_value.ensures c.skip.ensures
