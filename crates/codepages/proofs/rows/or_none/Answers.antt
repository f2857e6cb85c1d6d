use native.Mathlib.Omega.{arith}
use Rattle.codepages.specs.Laws.Back.{or_none_is, or_some_is}
use Rattle.codepages.proofs.rows.or_none.Goals as goal

pub returns-then-x-eq0 : goal.returns-then-x-eq0
returns-then-x-eq0 c = or_none_is _ c.if-x-eq0.true

pub returns-else-x-eq0 : goal.returns-else-x-eq0
returns-else-x-eq0 c = (or_some_is _ c.if-x-eq0.false, omega arith)
