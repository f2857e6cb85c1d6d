-- The table and the two rows, one after the other.
use mathlib.Core.Path.{ap}
use native.Mathlib.Omega.{arith}
use lib.ListN.{length}
use Rattle.report.specs.Laws.Puts.{◌▹◌}
use Rattle.report.specs.Laws.Rows.{length_part}
use Rattle.report.proofs.shape.Goals as goal

pub row-requires : goal.row-requires
row-requires c =
    let a = c.args in
    let e = ap length c.part-used.ensures in
    let l = length_part a.a.dims 0 a.a.order in
    omega (arith, c.requires, c.table-at.ensures.upper_bound, c.row-at.ensures.upper_bound)

pub returns : goal.returns
returns c =
    let a = c.args in
    let e = ap length c.part-used.ensures in
    let l = length_part a.a.dims 0 a.a.order in
    let r = c.row.ensures in
    record {
      puts = c.table-at.ensures.puts ▹ c.row-at.ensures.puts ▹ rw c.part-used.ensures at r.puts;
      upper_bound = omega (arith, c.table-at.ensures.upper_bound, c.row-at.ensures.upper_bound, r.upper_bound);
    }
