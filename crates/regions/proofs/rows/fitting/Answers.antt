use native.Mathlib.Omega.{arith}
use Rattle.std.proofs.Common.{rules}
use borrow.Author.Tests.{eq-eqb, ne_eqb}
use Rattle.sizes.specs.Basics.{pick}
use Rattle.layout.specs.Reads as spec
use Rattle.regions.proofs.rows.fitting.Goals as goal

pub returns-in_default : goal.returns-in_default
unfolding spec.fitting pick
returns-in_default c = search rules

pub returns-then-size-eq0 : goal.returns-then-size-eq0
unfolding spec.fitting pick
returns-then-size-eq0 c = simp (c.in-Ok.is, eq-eqb _ _ c.if-size-eq0.true)

pub returns : goal.returns
unfolding spec.fitting pick
returns c = simp (c.in-Ok.is, ne_eqb _ _ c.if-size-eq0.false, ← c.left.ensures) (omega arith)
