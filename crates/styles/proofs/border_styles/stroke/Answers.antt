use native.Mathlib.Omega.{arith}
use Rattle.std.proofs.Common.{◌∙◌, ne_eqb}
use Rattle.sizes.specs.Basics.{pick}
use Rattle.styles.specs.Styles.{listed, stroke}
use Rattle.styles.proofs.border_styles.stroke.Goals as goal

pub returns-in-0 : goal.returns-in-0
unfolding stroke listed pick
returns-in-0 c = c.single.ensures ∙ rw c.in-0.is

pub returns-in-1 : goal.returns-in-1
unfolding stroke listed pick
returns-in-1 c = c.doubled.ensures ∙ rw c.in-1.is

pub returns-in-2 : goal.returns-in-2
unfolding stroke listed pick
returns-in-2 c = rw c.in-2.is

pub returns-in_default : goal.returns-in_default
unfolding stroke listed pick
returns-in_default c = rw (ne_eqb c.args.style 0 (omega arith), ne_eqb c.args.style 1 (omega arith), ne_eqb c.args.style 2 (omega arith))
