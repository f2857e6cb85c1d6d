use Rattle.std.proofs.lemmas.Result.{err_from_is_err_and}
use Rattle.refusals.specs.Numbers.{by_number}
use Rattle.layout.specs.Reads as spec
use Rattle.regions.proofs.Closing.{open_refused, open_at}
use Rattle.regions.proofs.region.close_open.Goals as goal

pub returns-in_err-b : goal.returns-in_err-b
unfolding spec.close
returns-in_err-b c =
    let p = err_from_is_err_and c.from_residual.result c.from_residual.ensures.1 in
    rw (p.1, p.2, c.in_err-b.was)

pub returns-in_err-placed : goal.returns-in_err-placed
returns-in_err-placed c =
    let p = err_from_is_err_and c.from_residual-in_err-placed.result c.from_residual-in_err-placed.ensures.1 in
    rw (p.1, p.2, c.in_ok-b.was) (open_refused c.in_ok-b.b c.in_ok-b.e (by_number c.args.i) (rw c.in_err-placed.was at c.placed.ensures))

pub returns : goal.returns
returns c = rw c.in_ok-b.was (open_at c.in_ok-b.b c.in_ok-b.e (by_number c.args.i) (rw c.in_ok-placed.was at c.placed.ensures))
