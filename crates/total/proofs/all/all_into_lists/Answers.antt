use Rattle.layout.specs.Steps.Slices.{bytes_of}
use Rattle.total.specs.Laws.Reading.{taken, turned_down}
use Rattle.total.specs.Laws.AllCall.{refused_call}
use Rattle.total.proofs.all.all_into_lists.Goals as goal

pub accepted_all-requires : goal.accepted_all-requires
accepted_all-requires c =
    let m = c.read_into-a.ensures in
    taken (bytes_of _ c.type_inv.member) c.requires m c.if-a-ne0.false

pub returns-then-a-ne0 : goal.returns-then-a-ne0
returns-then-a-ne0 c =
    let a = c.args in
    let m = c.read_into-a.ensures in
    rw c.refused_all.ensures
    (refused_call (turned_down (bytes_of _ c.type_inv.member) c.requires m c.if-a-ne0.true) a.totals.now a.nodes.now a.cells.now a.dimension)
