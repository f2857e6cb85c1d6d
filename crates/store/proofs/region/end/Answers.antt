use Rattle.std.proofs.Common.{refl}
use Rattle.std.proofs.lemmas.Result.{err_from_is_err_and}
use Rattle.layout.specs.Reads.{order}
use Rattle.store.specs.Laws.Puts.{closes_nothing, closes_kept, closes_short, closes_done}
use Rattle.store.proofs.region.end.Goals as goal

pub returns-in_default : goal.returns-in_default
returns-in_default c = rw c.in_default.is (closes_nothing _ _ refl)

pub returns-in_err-p : goal.returns-in_err-p
returns-in_err-p c =
    let p = err_from_is_err_and c.from_residual.result c.from_residual.ensures.1 in
    rw (p.1, p.2, c.in-Ok.is, c.in_err-p.was) (closes_kept _ _ refl refl)

pub returns-in_err-number : goal.returns-in_err-number
returns-in_err-number c =
    let p = err_from_is_err_and c.from_residual-in_err-number.result c.from_residual-in_err-number.ensures.1 in
    rw (p.1, p.2, c.in-Ok.is, c.in_ok-p.was) (closes_short (order c.args.high) c.args.buf.now _ _ c.content_length.result refl refl
    (rw c.in_err-number.was at c.number.ensures))

pub returns : goal.returns
returns c =
    rw (c.in-Ok.is, c.in_ok-p.was) (closes_done (order c.args.high) c.args.buf.now _ _ c.content_length.result refl refl c.content_length.ensures
    (rw c.in_ok-number.was at c.number.ensures))
