use Rattle.cells.specs.Laws.Cells.{recorded, not_recorded}
use Rattle.cells.proofs.cell.record.Goals as goal
use Rattle.cells.proofs.cell.record.Goals.{in-Ok, in-Err}

pub returns : goal.returns
returns c =
    elim c.match-end.branch [
      | in-Ok w ↦ rw w.end-is (recorded (rw w.in-Ok.is at c.cell_value-end.ensures) (rw (w.size-is, w.length-size.ensures) at c.put.ensures))
      | in-Err w ↦ rw (w.end-is, w.in-Err.is) (not_recorded (rw w.in-Err.is at c.cell_value-end.ensures) (rw w.size-is at c.put.ensures))
    ]
