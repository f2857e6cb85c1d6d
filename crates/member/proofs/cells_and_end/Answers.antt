use Rattle.std.proofs.Common.{ap}
use lib.ListN.{length}
use Rattle.std.proofs.lemmas.Result.{err_from_is_err_and}
use Rattle.refusals.specs.Numbers.{by_number}
use Rattle.table.specs.Laws.Within.{is_within}
use Rattle.cells.specs.Laws.Cells.{cell_record_sizes}
use Rattle.opening.specs.Laws.Ends.{end_off, end_left, end_there}
use Rattle.member.proofs.cells_and_end.Goals as goal

pub returns-in_err-end : goal.returns-in_err-end
returns-in_err-end c =
    let a = c.args in
    let m = a.member in
    let p = err_from_is_err_and c.from_residual.result c.from_residual.ensures.1 in
    let o = rw (is_within cell_record_sizes m.bytes.now a.at (length a.words.now) _ m.short c.requires) at c.cells.ensures.cells in
    rw (p.1, p.2) (end_off (rw c.in_err-end.was at o))

pub returns-in_err-ending : goal.returns-in_err-ending
returns-in_err-ending c =
    let a = c.args in
    let m = a.member in
    let p = err_from_is_err_and c.from_residual-in_err-ending.result c.from_residual-in_err-ending.ensures.1 in
    let o = rw (is_within cell_record_sizes m.bytes.now a.at (length a.words.now) _ m.short c.requires) at c.cells.ensures.cells in
    rw (p.1, p.2) (end_left (rw c.in_ok-end.was at o) c.ending.ensures (ap by_number c.in_err-ending.was))

pub returns : goal.returns
returns c =
    let a = c.args in
    let m = a.member in
    let o = rw (is_within cell_record_sizes m.bytes.now a.at (length a.words.now) _ m.short c.requires) at c.cells.ensures.cells in
    end_there (rw c.in_ok-end.was at o) c.ending.ensures (ap by_number c.in_ok-ending.was)
