use Rattle.std.proofs.Common.{eq-eqb, ne_eqb}
use lib.ListN.{length}
use Rattle.table.specs.Laws.InMember.{in_member}
use Rattle.total.specs.Laws.Areas.{records_fit, with_records, without_records}
use Rattle.total.specs.Laws.Call.{too_short, accepted_call}
use Rattle.total.proofs.call.accepted.Goals as goal

pub copy_records-requires : goal.copy_records-requires
copy_records-requires c =
    let a = c.args in
    records_fit (in_member a.x.are_bytes) c.requires a.nodes.now a.cells.now
    (too_short a.x.answer.now a.x.member.now a.x.cell_list.now a.dimension a.leaf (length a.nodes.now) (length a.cells.now) c.fitting-total.ensures) c.if-total-eq0.true

pub returns-then-total-eq0 : goal.returns-then-total-eq0
returns-then-total-eq0 c =
    let a = c.args in
    let b = in_member a.x.are_bytes in
    let e = c.fitting-total.ensures in
    accepted_call b c.requires a.nodes.now a.cells.now a.dimension a.leaf e
    (with_records b c.requires a.nodes.now a.cells.now (too_short a.x.answer.now a.x.member.now a.x.cell_list.now a.dimension a.leaf (length a.nodes.now) (length a.cells.now) e) (eq-eqb _ _ c.if-total-eq0.true) c.copy_records.ensures)

pub returns-else-total-eq0 : goal.returns-else-total-eq0
returns-else-total-eq0 c =
    let a = c.args in
    let b = in_member a.x.are_bytes in
    let e = c.fitting-total.ensures in
    accepted_call b c.requires a.nodes.now a.cells.now a.dimension a.leaf e
    (without_records b c.requires a.nodes.now a.cells.now (too_short a.x.answer.now a.x.member.now a.x.cell_list.now a.dimension a.leaf (length a.nodes.now) (length a.cells.now) e) (ne_eqb _ _ c.if-total-eq0.false))
