use native.Mathlib.Omega.{arith}
use Rattle.std.proofs.Common.{ne_eqb}
use Rattle.sizes.specs.Basics.{pick}
use Rattle.styles.specs.Styles.{listed, doubled}
use Rattle.styles.proofs.border_styles.doubled.Goals as goal

pub returns-in-0 : goal.returns-in-0
unfolding doubled listed pick
returns-in-0 c = rw c.in-0.is

pub returns-in-1 : goal.returns-in-1
unfolding doubled listed pick
returns-in-1 c = rw c.in-1.is

pub returns-in_default : goal.returns-in_default
unfolding doubled listed pick
returns-in_default c = rw (ne_eqb c.args.width 0 (omega arith), ne_eqb c.args.width 1 (omega arith))
