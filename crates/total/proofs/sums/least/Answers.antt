use Rattle.std.proofs.Common.{eq-eqb, ne_eqb}
use Rattle.sizes.specs.Basics.{pick}
use Rattle.total.proofs.sums.least.Goals as goal

pub returns-then-numbers-eq0 : goal.returns-then-numbers-eq0
unfolding pick
returns-then-numbers-eq0 c = rw (eq-eqb _ _ c.if-numbers-eq0.true)

pub returns-else-numbers-eq0 : goal.returns-else-numbers-eq0
unfolding pick
returns-else-numbers-eq0 c = rw (ne_eqb _ _ c.if-numbers-eq0.false) c.min.ensures
