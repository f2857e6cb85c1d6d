use borrow.Author.Rules.{rules}
use borrow.Author.Tests.{leb-true}
use native.Mathlib.Omega.{arith}
use Rattle.sizes.specs.Basics.{pick}
use Rattle.layout.specs.Reads as spec
use Rattle.layout.specs.Steps.Fields.{peek_at}
use Rattle.layout.proofs.number.number.Goals as goal

pub high_first-requires : goal.high_first-requires
unfolding spec.peek pick
high_first-requires c = omega (arith, leb-true)

pub low_first-requires : goal.low_first-requires
unfolding spec.peek pick
low_first-requires c = omega (arith, leb-true)

pub returns-then-high : goal.returns-then-high
unfolding spec.peek pick
returns-then-high c = simp (c.in-Ok.is, peek_at, ← c.left.ensures, c.if-fits.true-raw, c.if-high.true) c.high_first.ensures

pub returns-else-high : goal.returns-else-high
unfolding spec.peek pick
returns-else-high c = simp (c.in-Ok.is, peek_at, ← c.left.ensures, c.if-fits.true-raw, c.if-high.false) c.low_first.ensures

pub returns-else-fits : goal.returns-else-fits
unfolding spec.peek pick
returns-else-fits c = simp (c.in-Ok.is, peek_at, ← c.left.ensures, c.if-fits.false-raw)

pub returns-in_default : goal.returns-in_default
unfolding spec.peek pick
returns-in_default c = search rules
