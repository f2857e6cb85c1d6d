use Rattle.layout.specs.Steps.Slices.{bytes_of}
use Rattle.total.specs.Laws.Reading.{taken, turned_down}
use Rattle.total.specs.Laws.Call.{refused_call}
use Rattle.total.proofs.call.leaf_into_lists.Goals as goal

pub accepted-requires : goal.accepted-requires
accepted-requires c =
    let m = c.read_into-a.ensures in
    taken (bytes_of _ c.type_inv.member) c.requires m c.if-a-ne0.false

pub returns-then-a-ne0 : goal.returns-then-a-ne0
returns-then-a-ne0 c =
    let a = c.args in
    let m = c.read_into-a.ensures in
    rw c.refused.ensures
    (refused_call (turned_down (bytes_of _ c.type_inv.member) c.requires m c.if-a-ne0.true) a.nodes.now a.cells.now a.dimension a.leaf)
