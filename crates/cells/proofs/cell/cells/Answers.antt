use Rattle.std.proofs.Common.{length, arith}
use Rattle.layout.specs.Keeps.{keeps_off}
use Rattle.table.specs.Laws.Within.{too_long, too_short, is_within}
use Rattle.cells.specs.Laws.Cells.{cell_record_sizes, cell_room}
use Rattle.cells.proofs.cell.cells.Goals as goal

pub returns-then-s-gt-MEMBER_BYTES-clause-cells : goal.returns-then-s-gt-MEMBER_BYTES-clause-cells
returns-then-s-gt-MEMBER_BYTES-clause-cells c =
    let a = c.args in
    rw (too_long cell_record_sizes a.s.now a.at (length a.words.now) _ c.if-s-gt-MEMBER_BYTES.true) keeps_off

pub returns-then-words-most_cell_words-clause-cells : goal.returns-then-words-most_cell_words-clause-cells
returns-then-words-most_cell_words-clause-cells c =
    let a = c.args in
    rw (too_short cell_record_sizes a.s.now a.at (length a.words.now) _ (omega arith) (omega (arith, c.most_cell_words.ensures, c.left.ensures))) keeps_off

pub section-requires : goal.section-requires
section-requires c =
    let a = c.args in
    cell_room a.s.now a.at _ (omega (arith, c.most_cell_words.ensures, c.left.ensures))

pub returns-clause-cells : goal.returns-clause-cells
returns-clause-cells c =
    let a = c.args in
    rw (is_within cell_record_sizes a.s.now a.at (length a.words.now) _ (omega arith) (omega (arith, c.most_cell_words.ensures, c.left.ensures))) c.section.ensures
