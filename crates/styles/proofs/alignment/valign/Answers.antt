use native.Mathlib.Omega.{arith}
use Rattle.sizes.specs.Basics.{pick}
use Rattle.styles.specs.Styles.{listed, valign}
use Rattle.std.proofs.Common.{ne_eqb}
use Rattle.styles.proofs.alignment.valign.Goals as goal

pub returns-in-0 : goal.returns-in-0
unfolding valign listed pick
returns-in-0 c = rw c.in-0.is

pub returns-in-1 : goal.returns-in-1
unfolding valign listed pick
returns-in-1 c = rw c.in-1.is

pub returns-in-2 : goal.returns-in-2
unfolding valign listed pick
returns-in-2 c = rw c.in-2.is

pub returns-in_default : goal.returns-in_default
unfolding valign listed pick
returns-in_default c = rw (ne_eqb c.args.n 0 (omega arith), ne_eqb c.args.n 1 (omega arith), ne_eqb c.args.n 2 (omega arith))
