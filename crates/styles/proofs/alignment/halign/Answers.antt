use native.Mathlib.Omega.{arith}
use Rattle.std.proofs.Common.{ne_eqb}
use Rattle.sizes.specs.Basics.{pick}
use Rattle.styles.specs.Styles.{listed, halign}
use Rattle.styles.proofs.alignment.halign.Goals as goal

pub returns-in-0 : goal.returns-in-0
unfolding halign listed pick
returns-in-0 c = rw c.in-0.is

pub returns-in-1 : goal.returns-in-1
unfolding halign listed pick
returns-in-1 c = rw c.in-1.is

pub returns-in-2 : goal.returns-in-2
unfolding halign listed pick
returns-in-2 c = rw c.in-2.is

pub returns-in-3 : goal.returns-in-3
unfolding halign listed pick
returns-in-3 c = rw c.in-3.is

pub returns-in-4 : goal.returns-in-4
unfolding halign listed pick
returns-in-4 c = rw c.in-4.is

pub returns-in_default : goal.returns-in_default
unfolding halign listed pick
returns-in_default c = rw (ne_eqb c.args.n 0 (omega arith), ne_eqb c.args.n 1 (omega arith), ne_eqb c.args.n 2 (omega arith), ne_eqb c.args.n 3 (omega arith), ne_eqb c.args.n 4 (omega arith))
