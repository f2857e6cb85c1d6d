use Rattle.std.proofs.Common.{◌≡◌, refl, ◌+◌, ◌-◌, arith}
use Rattle.std.proofs.lemmas.Result.{err_from_is_err_and}
use Rattle.layout.specs.Steps.Chain.{from_refused}
use Rattle.fields.specs.Laws.Gives.{string_after, string_to}
use Rattle.fields.proofs.read.text.Goals as goal

pub returns-in_err-at : goal.returns-in_err-at
returns-in_err-at c =
    let p = err_from_is_err_and c.from_residual.result c.from_residual.ensures.1 in
    rw (p.1, p.2, c.in_err-at.was) (from_refused refl)

pub overflow_add-place : goal.overflow_add-place
overflow_add-place c = omega (arith, string_after (rw c.in_ok-at.was at c.in_ok-end.ensures) refl refl)

pub overflow_sub-length : goal.overflow_sub-length
overflow_sub-length c = omega (arith, string_after (rw c.in_ok-at.was at c.in_ok-end.ensures) refl refl)

pub returns : goal.returns
returns c =
    let at = c.in_ok-at.at in
    let same : c.in_ok-end.end - (at + 4) ≡ c.in_ok-end.end - at - 4 = omega arith in
    rw (c.in_ok-at.was, same) (string_to (rw c.in_ok-at.was at c.in_ok-end.ensures) refl refl)
