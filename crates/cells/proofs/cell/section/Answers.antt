use Rattle.std.proofs.Common.{ap, arith}
use Rattle.std.proofs.lemmas.Result.{err_from_is_err_and}
use Rattle.sizes.specs.Sizes.{most_cells}
use Rattle.refusals.specs.Numbers.{by_number}
use Rattle.layout.specs.Steps.Keeping.{kept_on, kept_off}
use Rattle.layout.specs.Steps.Numbered.{in_limit, ends_at, no_number, no_items, the_items}
use Rattle.grammar.specs.Rules.{cell_rule, cells_rule}
use Rattle.table.specs.Laws.Within.{room_after}
use Rattle.table.specs.Laws.InMember.{in_member}
use Rattle.axes.specs.Laws.Rows.{after}
use Rattle.cells.specs.Laws.Cells.{cell_record_sizes, cell_kind, cell_of, AllCells, the_cells}
use Rattle.cells.proofs.cell.section.Goals as goal

pub all-requires : goal.all-requires
unfolding cells_rule cell_rule
all-requires c =
    let a = c.args in
    let m = a.member in
    let b = in_member m.are_bytes in
    let was = ap by_number c.in_ok-first.was in
    let end = ends_at most_cells (after (cell_kind m.version) ((cell_of m.version) a.places)) m.bytes.now b a.at ((AllCells m.version) a.at a.words.now) c.count.ensures was c.peek-n.ensures in
    (in_limit most_cells (after (cell_kind m.version) ((cell_of m.version) a.places)) m.bytes.now b a.at ((AllCells m.version) a.at a.words.now) c.count.ensures was c.peek-n.ensures, omega (arith, end), room_after cell_record_sizes (omega (arith, end)) c.requires)

pub returns-in_err-first : goal.returns-in_err-first
unfolding cells_rule cell_rule
returns-in_err-first c =
    let a = c.args in
    let m = a.member in
    let p = err_from_is_err_and c.from_residual.result c.from_residual.ensures.1 in
    rw (p.1, p.2) (no_number most_cells (after (cell_kind m.version) ((cell_of m.version) a.places)) m.bytes.now (in_member m.are_bytes) a.at ((AllCells m.version) a.at a.words.now) c.count.ensures (ap by_number c.in_err-first.was))

pub returns-in_err-end : goal.returns-in_err-end
unfolding cells_rule cell_rule
returns-in_err-end c =
    let a = c.args in
    let m = a.member in
    let p = err_from_is_err_and c.from_residual-in_err-end.result c.from_residual-in_err-end.ensures.1 in
    rw (p.1, p.2) (no_items most_cells (after (cell_kind m.version) ((cell_of m.version) a.places)) m.bytes.now (in_member m.are_bytes) a.at ((AllCells m.version) a.at a.words.now) c.count.ensures (ap by_number c.in_ok-first.was) c.peek-n.ensures
    (kept_off (rw c.in_err-end.was at c.all.ensures)))

pub returns : goal.returns
unfolding cells_rule cell_rule
returns c =
    let a = c.args in
    let m = a.member in
    let b = in_member m.are_bytes in
    let was = ap by_number c.in_ok-first.was in
    let r = kept_on (rw c.in_ok-end.was at c.all.ensures) in
    the_items most_cells (after (cell_kind m.version) ((cell_of m.version) a.places)) m.bytes.now b a.at ((AllCells m.version) a.at a.words.now) c.count.ensures was c.peek-n.ensures r.tree r.is
    ((the_cells m.version) (ends_at most_cells (after (cell_kind m.version) ((cell_of m.version) a.places)) m.bytes.now b a.at ((AllCells m.version) a.at a.words.now) c.count.ensures was c.peek-n.ensures) r.keeps)
