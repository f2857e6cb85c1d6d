use Prim.Native.Nat.{◌*◌}
use mathlib.Core.Path.{◌≡◌, ap, ◌∙◌}
use borrow.Author.Rules.{rules}
use native.Mathlib.Omega.{arith}
use lib.ListN.{length, drop}
use Rattle.report.specs.Lines.{row_bytes, table_of}
use Rattle.report.specs.Laws.Puts.{◌▹◌, nothing}
use Rattle.report.specs.Laws.Rows.{table_suc, drop_min, next_row, one_more, rows_left, length_part}
use Rattle.report.proofs.rows.table.Goals as goal

pub loop-init : goal.loop-init
unfolding table_of
loop-init c = (omega arith, search rules, omega arith, omega arith, nothing (omega arith))

pub row-p-requires : goal.row-p-requires
row-p-requires c =
    let a = c.args in
    let l = length_part a.size c.loop.from a.words.now in
    let e = ap length c.part.ensures in
    let f = rows_left (row_bytes a.name.now a.size) c.loop.counter a.n a.at (length a.out.now) c.loop.invariant.3
    (omega arith) c.requires in
    omega arith

pub loop-preserved : goal.loop-preserved
loop-preserved c =
    let a = c.args in
    let ws = a.words.now in
    let i = c.loop.counter in
    let l = length_part a.size c.loop.from ws in
    let p = c.part.ensures in
    let e = ap length p in
    let row = c.row-p.ensures in
    let d : drop c.loop.from ws ≡ drop (i * a.size) ws = rw c.loop.invariant.2 (drop_min (i * a.size) ws) in
    let r = rw (p, d) at row.puts in (
      omega arith,
      omega arith,
      c.further-from.ensures ∙ next_row a.size i c.loop.from (length ws) c.loop.invariant.2,
      one_more (row_bytes a.name.now a.size) i a.at c.loop.invariant.3 (omega arith),
      rw (table_suc a.name.now a.size i ws) (c.loop.invariant.4 ▹ r),
    )

pub returns : goal.returns
returns c =
    let a = c.args in
    let e : c.loop.counter ≡ a.n = omega arith in
    let inv = c.loop.invariant in
    record { puts = rw e at inv.4; upper_bound = rw e at inv.3 }
