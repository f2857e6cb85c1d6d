use Rattle.std.proofs.Common.{arith}
use Rattle.table.specs.Laws.Within.{room_after}
use Rattle.cells.specs.Laws.Cells.{cell_record_sizes}
use Rattle.cells.specs.Laws.Reading.{reading, goes_on, at_index, at_value, at_end, answered}
use Rattle.cells.proofs.cell.all.Goals as goal

pub loop-j-init : goal.loop-j-init
loop-j-init c = reading _ _ _ _ _ _

pub cell-requires : goal.cell-requires
cell-requires c =
    let p = c.requires in
    (omega arith, omega (arith, p.1, c.loop-j.invariant.bytes), rw c.loop-j.invariant.same_length (room_after cell_record_sizes (omega (arith, p.1, c.loop-j.invariant.bytes)) p.2))

pub once_each-requires : goal.once_each-requires
once_each-requires c =
    let t = at_index _ _ _ _ _ _ c.loop-j.invariant (omega arith) (rw (c.in-Err-Index.is, c.in-Err-Index.field-0-is) at c.cell.ensures) in
    (omega arith, t.placed)

pub returns-in-Err-Index : goal.returns-in-Err-Index
returns-in-Err-Index c =
    let t = at_index _ _ _ _ _ _ c.loop-j.invariant (omega arith) (rw (c.in-Err-Index.is, c.in-Err-Index.field-0-is) at c.cell.ensures) in
    answered _ _ _ _ _ _ t c.once_each.ensures

pub once_each-requires-in-Err-Value : goal.once_each-requires-in-Err-Value
once_each-requires-in-Err-Value c =
    let t = at_value _ _ _ _ _ _ c.loop-j.invariant (omega arith) (rw (c.in-Err-Value.is, c.in-Err-Value.field-0-is) at c.cell.ensures) in
    (omega arith, t.placed)

pub returns-in-Err-Value : goal.returns-in-Err-Value
returns-in-Err-Value c =
    let t = at_value _ _ _ _ _ _ c.loop-j.invariant (omega arith) (rw (c.in-Err-Value.is, c.in-Err-Value.field-0-is) at c.cell.ensures) in
    answered _ _ _ _ _ _ t c.once_each-in-Err-Value.ensures

pub loop-j-preserved : goal.loop-j-preserved
loop-j-preserved c = goes_on _ _ _ _ _ _ c.loop-j.invariant (omega arith) (rw c.in-Ok.is at c.cell.ensures)

pub once_each-requires-2 : goal.once_each-requires-2
once_each-requires-2 c = (omega arith, ((at_end _) _ _ _ _ _ c.loop-j.invariant (omega arith)).placed)

pub returns : goal.returns
returns c = answered _ _ _ _ _ _ (at_end _ _ _ _ _ _ c.loop-j.invariant (omega arith)) c.once_each-2.ensures
