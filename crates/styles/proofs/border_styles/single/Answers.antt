use native.Mathlib.Omega.{arith}
use Rattle.std.proofs.Common.{ne_eqb}
use Rattle.sizes.specs.Basics.{pick}
use Rattle.styles.specs.Styles.{listed, single}
use Rattle.styles.proofs.border_styles.single.Goals as goal

pub returns-in-0 : goal.returns-in-0
unfolding single listed pick
returns-in-0 c = rw c.in-0.is

pub returns-in-1 : goal.returns-in-1
unfolding single listed pick
returns-in-1 c = rw c.in-1.is

pub returns-in-2 : goal.returns-in-2
unfolding single listed pick
returns-in-2 c = rw c.in-2.is

pub returns-in-3 : goal.returns-in-3
unfolding single listed pick
returns-in-3 c = rw c.in-3.is

pub returns-in_default : goal.returns-in_default
unfolding single listed pick
returns-in_default c = rw (ne_eqb c.args.width 0 (omega arith), ne_eqb c.args.width 1 (omega arith), ne_eqb c.args.width 2 (omega arith), ne_eqb c.args.width 3 (omega arith))
