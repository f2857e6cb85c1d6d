use Rattle.std.proofs.Common.{eq-eqb, ne_eqb}
use native.Mathlib.Omega.{arith}
use lib.ListN.{length}
use Rattle.table.specs.Laws.InMember.{in_member}
use Rattle.total.specs.Laws.Areas.{records_fit, with_records, without_records}
use Rattle.total.specs.Laws.AllCall.{too_short, rows_room, with_totals, without_totals}
use Rattle.total.proofs.all.accepted_all.Goals as goal

pub fill-requires : goal.fill-requires
fill-requires c =
    let a = c.args in
    (omega arith, rows_room a.x.answer.now a.dimension (length a.totals.now) (length a.nodes.now) (length a.cells.now) c.fitting_all-all.ensures (eq-eqb _ _ c.if-all-eq0.true))

pub copy_records-requires : goal.copy_records-requires
copy_records-requires c =
    let a = c.args in
    records_fit (in_member a.x.are_bytes) c.requires a.nodes.now a.cells.now
    (too_short a.x.answer.now a.dimension (length a.totals.now) (length a.nodes.now) (length a.cells.now) c.fitting_all-all.ensures) c.if-all-eq0.true

pub returns-then-all-eq0 : goal.returns-then-all-eq0
returns-then-all-eq0 c =
    let a = c.args in
    let b = in_member a.x.are_bytes in
    let e = c.fitting_all-all.ensures in
    let few = too_short a.x.answer.now a.dimension (length a.totals.now) (length a.nodes.now) (length a.cells.now) e in
    with_totals b c.requires a.totals.now a.nodes.now a.cells.now a.dimension e (eq-eqb _ _ c.if-all-eq0.true) c.fill.ensures
    (with_records b c.requires a.nodes.now a.cells.now few (eq-eqb _ _ c.if-all-eq0.true) c.copy_records.ensures)

pub returns-else-all-eq0 : goal.returns-else-all-eq0
returns-else-all-eq0 c =
    let a = c.args in
    let b = in_member a.x.are_bytes in
    let e = c.fitting_all-all.ensures in
    let few = too_short a.x.answer.now a.dimension (length a.totals.now) (length a.nodes.now) (length a.cells.now) e in
    without_totals b c.requires a.totals.now a.nodes.now a.cells.now a.dimension e (ne_eqb _ _ c.if-all-eq0.false)
    (without_records b c.requires a.nodes.now a.cells.now few (ne_eqb _ _ c.if-all-eq0.false))
