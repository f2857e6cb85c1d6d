-- Each way out gives the answer that the specification gives there.
use Rattle.std.proofs.Common.{arith}
use Rattle.std.proofs.lemmas.Result.{err_from_is_err_and}
use Rattle.position.proofs.Answering.{refused, outside, on_layers, on_rows, on_columns, stands}
use Rattle.position.proofs.position_of.Goals as goal

pub returns-in_err-table-clause-answer : goal.returns-in_err-table-clause-answer
returns-in_err-table-clause-answer c =
    let p = err_from_is_err_and c.from_residual.result c.from_residual.ensures.1 in
    let e = c.in_err-table.ensures in
    rw (p.1, p.2) (refused _ _ _ _ _ _ e.0 e.1)

pub returns-in_err-table-clause-reason : goal.returns-in_err-table-clause-reason
returns-in_err-table-clause-reason c =
    let p = err_from_is_err_and c.from_residual.result c.from_residual.ensures.1 in
    rw (p.1, p.2) c.in_err-table.ensures.1

pub returns-then-places-from-clause-answer : goal.returns-then-places-from-clause-answer
returns-then-places-from-clause-answer c =
    let e = c.in_ok-table.ensures in
    let none = rw (e.0, e.1, e.2, e.3, e.4) at c.in_ok-table.table.accepted in
    outside _ _ _ _ _ _ none c.places.ensures (omega arith) (omega arith)

pub along-requires : goal.along-requires
along-requires c =
    let e = c.in_ok-table.ensures in
    let none = rw (e.0, e.1, e.2, e.3, e.4) at c.in_ok-table.table.accepted in
    on_layers _ _ _ _ _ _ none c.places.ensures (omega arith) (rw (e.1, e.4) at c.layers.ensures)

pub along-requires-2 : goal.along-requires-2
along-requires-2 c =
    let e = c.in_ok-table.ensures in
    let none = rw (e.0, e.1, e.2, e.3, e.4) at c.in_ok-table.table.accepted in
    on_rows _ _ _ _ _ _ none c.places.ensures (omega arith) (rw (e.1, e.2, e.4) at c.rows.ensures)

pub along-requires-3 : goal.along-requires-3
along-requires-3 c =
    let e = c.in_ok-table.ensures in
    let none = rw (e.0, e.1, e.2, e.3, e.4) at c.in_ok-table.table.accepted in
    on_columns _ _ _ _ _ _ none c.places.ensures (omega arith) (rw (e.1, e.2, e.3, e.4) at c.columns.ensures)

pub returns-clause-answer : goal.returns-clause-answer
returns-clause-answer c =
    let e = c.in_ok-table.ensures in
    let none = rw (e.0, e.1, e.2, e.3, e.4) at c.in_ok-table.table.accepted in
    stands _ _ _ _ _ _ none c.places.ensures (omega arith) (rw (e.1, e.4) at c.layers.ensures) (rw (e.1, e.2, e.4) at c.rows.ensures) (rw (e.1, e.2, e.3, e.4) at c.columns.ensures)
    c.along.ensures c.along-2.ensures c.along-3.ensures
