use Rattle.std.proofs.Common.{◌≡◌, refl, sym, arith, length, take}
use borrow.Author.Tests.{le-leb, lt-leb}
use lib.Seq.{take-length}
use Rattle.std.proofs.lemmas.Result.{err_from_is_err_and}
use Rattle.store.specs.Laws.Deliver.{part_long, delivers_nothing, delivers_short, delivers_done}
use Rattle.store.proofs.deliver.deliver.Goals as goal

pub returns-in_err-at : goal.returns-in_err-at
returns-in_err-at c =
    let p = err_from_is_err_and c.from_residual.result c.from_residual.ensures.1 in
    rw (p.1, p.2, c.in_err-at.was) (delivers_nothing _ _ refl)

pub returns-then-n-out : goal.returns-then-n-out
returns-then-n-out c =
    let n = c.min-n in
    let l : length (take n.result c.args.buf.now) ≡ n.result = sym (part_long c.args.buf.now (omega (arith, n.ensures))) in
    rw c.in_ok-at.was (delivers_done _ _ refl n.ensures (le-leb _ _ c.if-n-out.true) (rw (c.copy_from_slice.ensures.after, take-length, l)))

pub returns-else-n-out : goal.returns-else-n-out
returns-else-n-out c = rw c.in_ok-at.was (delivers_short _ _ refl c.min-n.ensures (lt-leb _ _ c.if-n-out.false))
