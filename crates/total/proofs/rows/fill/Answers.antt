use native.Mathlib.Omega.{arith}
use Rattle.total.specs.Total.{no_sums, sums}
use Rattle.total.specs.Laws.Words.{under_by, records_say}
use Rattle.total.specs.Laws.LeafRows.{cleared_again, rows_fit, filled_rows}
use Rattle.total.proofs.rows.fill.Goals as goal

pub clear-requires : goal.clear-requires
clear-requires c = c.requires

pub scatter_all-requires : goal.scatter_all-requires
scatter_all-requires c =
    let n = c.args.n in
    let old = c.args.area.now in
    let e = c.clear.ensures in
    let again = cleared_again n old e in
    (omega (arith, c.grid_of-g.ensures.1), c.requires.0, rows_fit n old e c.requires.1 (λ _. no_sums) again, again)

pub finish-requires : goal.finish-requires
finish-requires c =
    let a = c.args in
    let g = c.grid_of-g.result in
    (c.requires.0, rows_fit a.n a.area.now c.clear.ensures c.requires.1 (λ j. sums (under_by g.block g.step j) (records_say a.x.member.now g.version a.x.cell_list.now 0 g.cells)) c.scatter_all.ensures)

pub returns : goal.returns
returns c =
    let a = c.args in
    filled_rows a.n a.area.now c.clear.ensures a.x.member.now a.x.answer.now a.x.cell_list.now a.dimension c.grid_of-g.ensures.0 c.scatter_all.ensures c.finish.ensures
