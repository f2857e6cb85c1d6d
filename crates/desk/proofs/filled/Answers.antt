use mathlib.Core.Path.{sym}
use lib.Seq.{length-take-le}
use native.Mathlib.Omega.{arith}
use Rattle.desk.proofs.Tests.{enough, too_few}
use Rattle.desk.proofs.filled.Goals as goal

pub slice_bounds-result-end : goal.slice_bounds-result-end
slice_bounds-result-end c = sym (length-take-le _ _ (omega arith))

pub returns-then-count-records : goal.returns-then-count-records
returns-then-count-records c =
    let a = c.args in
    enough a.area.now a.count (omega arith)

pub returns-else-count-records : goal.returns-else-count-records
returns-else-count-records c =
    let a = c.args in
    too_few a.area.now a.count (omega arith)
