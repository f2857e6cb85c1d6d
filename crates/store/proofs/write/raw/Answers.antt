use Rattle.std.proofs.Common.{refl, ◌+◌, ◌<◌, length, arith}
use Rattle.std.proofs.lemmas.Result.{err_from_is_err_and}
use Rattle.store.specs.Laws.Puts.{stores_kept, stores_refused, stores_short, stores_done}
use Rattle.store.proofs.Parts.{put_all}
use Rattle.store.proofs.write.raw.Goals as goal
use Rattle.store.proofs.write.raw.Goals.{else-at-buf-via-then-at-buf+else-text-buf, else-at-buf-via-else-at-buf}

pub returns-in_err-at : goal.returns-in_err-at
returns-in_err-at c =
    let p = err_from_is_err_and c.from_residual.result c.from_residual.ensures.1 in
    rw (p.1, p.2, c.in_err-at.was) (stores_kept _ _ _ refl)

pub returns-in-Some : goal.returns-in-Some
returns-in-Some c =
    let e = c.in-Some.ensures in
    rw (c.in_ok-at.was, e.0) (stores_refused _ _ _ (rw e.0 at e.1) refl)

pub returns-then-text-buf : goal.returns-then-text-buf
returns-then-text-buf c =
    let a = c.args in
    let at = c.in_ok-at.at in
    rw (c.in_ok-at.was, c.in_default.ensures) (stores_done a.text.now a.buf.now 0 refl refl (omega arith)
    (put_all a.buf.now at a.text.now c.copy_from_slice.new.self (omega arith) c.copy_from_slice.ensures.after))

pub returns : goal.returns
returns c =
    let a = c.args in
    let outside : length a.buf.now < c.in_ok-at.at + length a.text.now = elim c.else-at-buf.branch [
      | else-at-buf-via-then-at-buf+else-text-buf w ↦ omega arith
      | else-at-buf-via-else-at-buf w ↦ omega arith
    ] in
    rw (c.in_ok-at.was, c.in_default.ensures) (stores_short a.text.now a.buf.now 0 refl refl outside)
