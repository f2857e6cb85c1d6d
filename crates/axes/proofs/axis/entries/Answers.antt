use Rattle.std.proofs.Common.{arith}
use Rattle.std.proofs.lemmas.Result.{err_from_is_err_and}
use Rattle.axes.specs.Laws.Rows.{storing, stores_on, stores_off, stores_to}
use Rattle.axes.specs.Laws.Axes.{entry_kind}
use Rattle.axes.proofs.axis.entries.Goals as goal

pub loop-j-init : goal.loop-j-init
loop-j-init c = (storing entry_kind _ _ _ _ _, omega arith)

pub returns-in_err-at : goal.returns-in_err-at
returns-in_err-at c =
    let p = err_from_is_err_and c.from_residual.result c.from_residual.ensures.1 in
    rw (p.1, p.2) (stores_off entry_kind _ _ _ _ _ c.loop-j.invariant.0 (omega arith) (rw c.in_err-at.was at c.entry.ensures))

pub loop-j-preserved : goal.loop-j-preserved
loop-j-preserved c = (stores_on entry_kind _ _ _ _ _ c.loop-j.invariant.0 (omega arith) (omega arith) (rw c.in_ok-at.was at c.entry.ensures), omega arith)

pub returns : goal.returns
returns c = stores_to entry_kind _ _ _ _ _ c.loop-j.invariant.0 (omega arith)
