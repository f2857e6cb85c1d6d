use Rattle.std.proofs.Common.{arith, le-leb}
use Rattle.std.proofs.lemmas.Result.{err_from_is_err_and}
use Rattle.sizes.specs.Basics.{pick}
use Rattle.layout.specs.Reads as spec
use Rattle.layout.specs.Steps.Fields.{field_at}
use Rattle.layout.proofs.number.field.Goals as goal

pub overflow_add-result : goal.overflow_add-result
overflow_add-result c = omega (arith, c.if-inside.true, c.left.ensures, c.ranges)

pub returns-in_err-at : goal.returns-in_err-at
unfolding spec.field
returns-in_err-at c =
    let p = err_from_is_err_and c.from_residual.result c.from_residual.ensures.1 in
    rw (p.1, p.2, c.in_err-at.was)

pub returns-in-None : goal.returns-in-None
unfolding spec.field pick
returns-in-None c = simp (c.in_ok-at.was, field_at, ← c.left.ensures, le-leb _ _ c.if-inside.true, c.in-None.ensures)

pub returns-in-Some : goal.returns-in-Some
unfolding spec.field pick
returns-in-Some c =
    let e = c.in-Some.ensures in
    simp (c.in_ok-at.was, field_at, ← c.left.ensures, le-leb _ _ c.if-inside.true, ← e.0, e.1)

pub returns : goal.returns
unfolding spec.field pick
returns c = simp (c.in_ok-at.was, field_at, ← c.left.ensures, c.if-inside.false-raw)
