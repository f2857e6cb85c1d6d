use Rattle.std.proofs.lemmas.Result.{err_from_is_err_and}
use Rattle.layout.specs.Reads as spec
use Rattle.layout.proofs.run.skip.Goals as goal

pub returns-in_err-at : goal.returns-in_err-at
unfolding spec.skip
returns-in_err-at c =
    let p = err_from_is_err_and c.from_residual.result c.from_residual.ensures.1 in
    rw (p.1, p.2, c.in_err-at.was)

pub returns : goal.returns
unfolding spec.skip
returns c = simp (c.in_ok-at.was, c.past.ensures)
