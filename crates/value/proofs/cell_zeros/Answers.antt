use Rattle.std.proofs.Common.{eq-eqb, ne_eqb}
use Rattle.sizes.specs.Basics.{pick}
use Rattle.value.proofs.cell_zeros.Goals as goal

pub returns-then-version-eq1 : goal.returns-then-version-eq1
unfolding pick
returns-then-version-eq1 c = rw (eq-eqb c.args.version 1 c.if-version-eq1.true)

pub returns-else-version-eq1 : goal.returns-else-version-eq1
unfolding pick
returns-else-version-eq1 c = rw (ne_eqb c.args.version 1 c.if-version-eq1.false)
