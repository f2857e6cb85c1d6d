use native.Mathlib.Omega.{arith}
use Rattle.std.proofs.lemmas.Result.{err_from_is_err_and}
use Rattle.layout.specs.Reads as spec
use Rattle.regions.proofs.Rooms.{fitting_room}
use Rattle.regions.proofs.rows.rows.Goals as goal

pub returns-in_err-at : goal.returns-in_err-at
unfolding spec.rows
returns-in_err-at c =
    let p = err_from_is_err_and c.from_residual.result c.from_residual.ensures.1 in
    rw (p.1, p.2, c.in_err-at.was)

pub overflow_mul-result : goal.overflow_mul-result
unfolding spec.rows
overflow_mul-result c =
    let a = c.args in
    omega (arith, rw (← c.fitting-k.ensures) at (fitting_room a.size a.n a.s.now c.in_ok-at.at))

pub overflow_add-result : goal.overflow_add-result
unfolding spec.rows
overflow_add-result c =
    let a = c.args in
    omega (arith, rw (← c.fitting-k.ensures) at (fitting_room a.size a.n a.s.now c.in_ok-at.at))

pub returns : goal.returns
unfolding spec.rows
returns c = simp (c.in_ok-at.was, ← c.fitting-k.ensures)
