use native.Mathlib.Omega.{arith}
use mathlib.Core.Path.{sym}
use Rattle.convert.proofs.Laws.Pages.{point_low}
use Rattle.codepages.specs.Laws.Branches.{point_none, point_entry}
use Rattle.codepages.proofs.entries.ToUtf8.code_point.Goals as goal

pub returns-then-b-lt-ASCII : goal.returns-then-b-lt-ASCII
returns-then-b-lt-ASCII c = (sym (point_low _ _ (omega arith)), omega arith)

pub returns-then-e-eq0 : goal.returns-then-e-eq0
returns-then-e-eq0 c = point_none _ _ _ (omega arith) c.entry-e.ensures c.if-e-eq0.true

pub returns-else-e-eq0 : goal.returns-else-e-eq0
returns-else-e-eq0 c = (point_entry _ _ _ (omega arith) c.entry-e.ensures c.if-e-eq0.false, omega arith)
