use borrow.Author.Tests.{eq-eqb, ne_eqb}
use Rattle.std.proofs.lemmas.Result.{err_from_is_err_and}
use Rattle.sizes.specs.Basics.{pick}
use Rattle.refusals.specs.Numbers.{by_number}
use Rattle.layout.specs.Reads as spec
use Rattle.regions.proofs.Closing.{filled_refused, filled_at}
use Rattle.regions.proofs.region.close.Goals as goal

pub returns-in_err-b : goal.returns-in_err-b
unfolding spec.close
returns-in_err-b c =
    let p = err_from_is_err_and c.from_residual.result c.from_residual.ensures.1 in
    rw (p.1, p.2, c.in_err-b.was)

pub returns-in_err-at : goal.returns-in_err-at
unfolding spec.close
returns-in_err-at c =
    let p = err_from_is_err_and c.from_residual-in_err-at.result c.from_residual-in_err-at.ensures.1 in
    rw (p.1, p.2, c.in_ok-b.was) (filled_refused c.in_ok-b.b c.in_ok-b.e (by_number c.args.i) (rw c.in_err-at.was at c.placed.ensures))

pub returns-then-at-e : goal.returns-then-at-e
unfolding spec.close pick
returns-then-at-e c =
    let f = filled_at c.in_ok-b.b c.in_ok-b.e (by_number c.args.i) (rw c.in_ok-at.was at c.placed.ensures) in
    rw c.in_ok-b.was (rw (ne_eqb _ _ c.if-at-e.true) at f)

pub returns : goal.returns
unfolding spec.close pick
returns c =
    let f = filled_at c.in_ok-b.b c.in_ok-b.e (by_number c.args.i) (rw c.in_ok-at.was at c.placed.ensures) in
    rw (c.in_ok-b.was, c.if-at-e.false) (rw (eq-eqb _ _ c.if-at-e.false) at f)
