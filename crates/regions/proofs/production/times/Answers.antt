use Rattle.std.proofs.Common.{◌≡◌, refl, ◌+◌, ◌-◌, arith}
use Rattle.std.proofs.lemmas.Result.{err_from_is_err_and}
use Rattle.layout.specs.Steps.Chain.{from_refused, left_more, left_none, left_kept}
use Rattle.regions.proofs.production.times.Goals as goal

pub returns-in_err-at : goal.returns-in_err-at
returns-in_err-at g c =
    let p = err_from_is_err_and c.from_residual.result c.from_residual.ensures.1 in
    rw (p.1, p.2, c.in_err-at.was) (from_refused refl)

pub returns-in_err-at-2 : goal.returns-in_err-at-2
returns-in_err-at-2 g c =
    let p = err_from_is_err_and c.from_residual-in_err-at-2.result c.from_residual-in_err-at-2.ensures.1 in
    rw (p.1, p.2, c.in_ok-at.was) (left_kept (left_more c.loop.invariant (omega arith) c.in_err-at-2.ensures) refl)

pub loop-init : goal.loop-init
loop-init g c =
    let k : c.args.n - 0 ≡ c.args.n = omega arith in
    rw k (λ r f. f)

pub loop-preserved : goal.loop-preserved
loop-preserved g c =
    let k : c.args.n - (c.loop.counter + 1) ≡ c.args.n - c.loop.counter - 1 = omega arith in
    rw k (left_more c.loop.invariant (omega arith) c.in_ok-at-2.ensures)

pub returns : goal.returns
returns g c = rw c.in_ok-at.was (left_none c.loop.invariant (omega arith))
