-- Each way out gives the answer that the specification gives there.
use Rattle.std.proofs.Common.{arith}
use Rattle.std.proofs.lemmas.Result.{err_from_is_err_and}
use Rattle.position.proofs.Answering.{spanned, no_cell, layer_outside, row_outside, column_outside, fit, cell_at}
use Rattle.position.proofs.index_of.Goals as goal
use Rattle.position.proofs.index_of.Goals.{then-span-from-via-then-span-from, then-span-from-via-else-span-from+then-span-from-2, then-span-from-via-else-span-from+else-span-from-2+then-span-from-3}

pub returns-in_err-table-clause-answer : goal.returns-in_err-table-clause-answer
returns-in_err-table-clause-answer c =
    let p = err_from_is_err_and c.from_residual.result c.from_residual.ensures.1 in
    let e = c.in_err-table.ensures in
    rw (p.1, p.2) (no_cell _ _ _ _ _ _ _ _ e.0 e.1)

pub returns-in_err-table-clause-reason : goal.returns-in_err-table-clause-reason
returns-in_err-table-clause-reason c =
    let p = err_from_is_err_and c.from_residual.result c.from_residual.ensures.1 in
    rw (p.1, p.2) c.in_err-table.ensures.1

pub returns-then-span-from-clause-answer : goal.returns-then-span-from-clause-answer
returns-then-span-from-clause-answer c =
    let a = c.args in
    let e = c.in_ok-table.ensures in
    let none = rw (e.0, e.1, e.2, e.3, e.4) at c.in_ok-table.table.accepted in
    let p = spanned a.ns.now a.layers a.rows a.columns a.order.now 0 a.layers c.span.ensures (rw (e.1, e.4) at c.layers.ensures) in
    elim c.then-span-from.branch [
      | then-span-from-via-then-span-from w ↦ layer_outside _ _ _ _ _ _ _ _ none p (omega arith) (omega arith)
      | then-span-from-via-else-span-from+then-span-from-2 w ↦
          let q = spanned a.ns.now a.layers a.rows a.columns a.order.now a.layers a.rows w.span-else-span-from.ensures (rw (e.1, e.2, e.4) at w.rows.ensures) in
          row_outside _ _ _ _ _ _ _ _ none p (omega arith) q (omega arith) (omega arith)
      | then-span-from-via-else-span-from+else-span-from-2+then-span-from-3 w ↦
          let q = spanned a.ns.now a.layers a.rows a.columns a.order.now a.layers a.rows w.span-else-span-from.ensures (rw (e.1, e.2, e.4) at w.rows.ensures) in
          let s = spanned a.ns.now a.layers a.rows a.columns a.order.now _ _ w.span-else-span-from-2.ensures (rw (e.1, e.2, e.3, e.4) at w.columns.ensures) in
          column_outside _ _ _ _ _ _ _ _ none p (omega arith) q (omega arith) s (omega arith) (omega arith)
    ]

pub index_at-requires : goal.index_at-requires
index_at-requires c =
    let a = c.args in
    let e = c.in_ok-table.ensures in
    let none = rw (e.0, e.1, e.2, e.3, e.4) at c.in_ok-table.table.accepted in
    let p = spanned a.ns.now a.layers a.rows a.columns a.order.now 0 a.layers c.span.ensures (rw (e.1, e.4) at c.layers.ensures) in
    let q = spanned a.ns.now a.layers a.rows a.columns a.order.now a.layers a.rows c.span-else-span-from.ensures (rw (e.1, e.2, e.4) at c.rows.ensures) in
    let s = spanned a.ns.now a.layers a.rows a.columns a.order.now _ _ c.span-else-span-from-2.ensures (rw (e.1, e.2, e.3, e.4) at c.columns.ensures) in
    rw (e.0, e.1, e.2, e.3, e.4) (fit _ _ _ _ _ _ _ _ none p (omega arith) q (omega arith) s (omega arith))

pub returns-clause-answer : goal.returns-clause-answer
returns-clause-answer c =
    let a = c.args in
    let e = c.in_ok-table.ensures in
    let none = rw (e.0, e.1, e.2, e.3, e.4) at c.in_ok-table.table.accepted in
    let p = spanned a.ns.now a.layers a.rows a.columns a.order.now 0 a.layers c.span.ensures (rw (e.1, e.4) at c.layers.ensures) in
    let q = spanned a.ns.now a.layers a.rows a.columns a.order.now a.layers a.rows c.span-else-span-from.ensures (rw (e.1, e.2, e.4) at c.rows.ensures) in
    let s = spanned a.ns.now a.layers a.rows a.columns a.order.now _ _ c.span-else-span-from-2.ensures (rw (e.1, e.2, e.3, e.4) at c.columns.ensures) in
    cell_at _ _ _ _ _ _ _ _ none p (omega arith) q (omega arith) s (omega arith) (rw (e.0, e.1, e.2, e.3, e.4) at c.index_at.ensures)
