use Rattle.std.proofs.Common.{arith, ne_eqb}
use Rattle.sizes.specs.Basics.{pick}
use Rattle.look_rules.specs.StyleRule.{listed}
use Rattle.look_rules.proofs.borders.listed.Goals as goal

pub returns-in-0 : goal.returns-in-0
unfolding listed pick
returns-in-0 c = rw c.in-0.is

pub returns-in-1 : goal.returns-in-1
unfolding listed pick
returns-in-1 c = rw c.in-1.is

pub returns-in_default : goal.returns-in_default
unfolding listed pick
returns-in_default c = rw (ne_eqb c.args.style 0 (omega arith), ne_eqb c.args.style 1 (omega arith))
