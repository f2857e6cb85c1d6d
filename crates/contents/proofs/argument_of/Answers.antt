use Rattle.std.proofs.Common.{eq-eqb, ne_eqb}
use Rattle.sizes.specs.Basics.{pick}
use Rattle.contents.proofs.argument_of.Goals as goal

pub returns-then-x-eq0 : goal.returns-then-x-eq0
unfolding pick
returns-then-x-eq0 c = rw (eq-eqb _ _ c.if-x-eq0.true)

pub returns-else-x-eq0 : goal.returns-else-x-eq0
unfolding pick
returns-else-x-eq0 c = rw (ne_eqb _ _ c.if-x-eq0.false)
