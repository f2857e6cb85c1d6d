use borrow.Author.Tests.{eq-eqb, ne_eqb}
use Rattle.std.proofs.lemmas.Result.{err_from_is_err_and}
use Rattle.sizes.specs.Basics.{pick}
use Rattle.layout.specs.Reads as spec
use Rattle.regions.proofs.region.close_optional.Goals as goal

pub returns-in_err-b : goal.returns-in_err-b
unfolding spec.close
returns-in_err-b c =
    let p = err_from_is_err_and c.from_residual.result c.from_residual.ensures.1 in
    rw (p.1, p.2, c.in_err-b.was)

pub returns-then-b-e : goal.returns-then-b-e
unfolding spec.close pick
returns-then-b-e c = simp (c.in_ok-b.was, eq-eqb _ _ c.if-b-e.true)

pub returns : goal.returns
unfolding spec.close pick
returns c = simp (c.in_ok-b.was, ne_eqb _ _ c.if-b-e.false) c.close.ensures
