use Rattle.sizes.specs.Basics.{pick}
use Rattle.layout.proofs.number.unless.Goals as goal

pub returns-then-passed-clause-code : goal.returns-then-passed-clause-code
unfolding pick
returns-then-passed-clause-code c = simp c.if-passed.true

pub returns-else-passed-clause-code : goal.returns-else-passed-clause-code
unfolding pick
returns-else-passed-clause-code c = simp c.if-passed.false
