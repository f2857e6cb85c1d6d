use Rattle.std.proofs.Common.{◌+◌, length, arith}
use borrow.Author.Tests.{le-leb, lt-leb}
use Rattle.std.proofs.lemmas.Result.{err_from_is_err_and}
use Rattle.sizes.specs.Basics.{pick}
use Rattle.store.specs.Put.{opened}
use Rattle.store.proofs.region.start.Goals as goal

pub returns-in_err-at : goal.returns-in_err-at
unfolding opened
returns-in_err-at c =
    let p = err_from_is_err_and c.from_residual.result c.from_residual.ensures.1 in
    rw (p.1, p.2, c.in_err-at.was)

pub returns-then-left-ge4 : goal.returns-then-left-ge4
unfolding opened pick
returns-then-left-ge4 c = simp (c.in_ok-at.was, le-leb (c.in_ok-at.at + 4) (length c.args.buf.now) (omega (arith, c.left.ensures)))

pub returns-else-left-ge4 : goal.returns-else-left-ge4
unfolding opened pick
returns-else-left-ge4 c = simp (c.in_ok-at.was, lt-leb (c.in_ok-at.at + 4) (length c.args.buf.now) (omega (arith, c.left.ensures)))
