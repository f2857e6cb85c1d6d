use Rattle.std.proofs.Common.{arith}
use borrow.Author.Tests.{eq-eqb, ne_eqb, lt-ltb}
use Rattle.sizes.specs.Basics.{pick}
use Rattle.counts.proofs.double_kind.Goals as goal

pub returns-then-bits-eq-MISSING : goal.returns-then-bits-eq-MISSING
unfolding pick
returns-then-bits-eq-MISSING c = rw (eq-eqb _ _ c.if-bits-eq-MISSING.true)

pub returns-in-Some : goal.returns-in-Some
unfolding pick
returns-in-Some c = rw (ne_eqb _ _ c.if-bits-eq-MISSING.false, ← c.in-Some.ensures, lt-ltb c.in-Some.n 4294967296 (omega arith))

pub returns-in-None : goal.returns-in-None
unfolding pick
returns-in-None c = rw (ne_eqb _ _ c.if-bits-eq-MISSING.false, ← c.in-None.ensures)
