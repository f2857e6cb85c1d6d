use Rattle.std.proofs.Common.{refl, arith}
use Rattle.std.proofs.lemmas.List.{length-replicate}
use Rattle.std.proofs.lemmas.Result.{err_from_is_err_and}
use Rattle.layout.specs.Steps.Chain.{from_refused}
use Rattle.look.proofs.Separators.{found_none, found_more, found_refused, found_all}
use Rattle.look.proofs.borders.separators.Goals as goal

pub returns-in_err-at : goal.returns-in_err-at
returns-in_err-at g c =
    let p = err_from_is_err_and c.from_residual.result c.from_residual.ensures.1 in
    rw (p.1, p.2, c.in_err-at.was) (from_refused refl)

pub loop-x-init : goal.loop-x-init
loop-x-init g c = found_none _ (length-replicate g.row.N _)

pub loop-x-preserved : goal.loop-x-preserved
loop-x-preserved g c = found_more c.loop-x.invariant (omega arith) c.in_ok-value.value c.in_ok-value.ensures

pub returns-in_err-value : goal.returns-in_err-value
returns-in_err-value g c =
    let p = err_from_is_err_and c.from_residual-in_err-value.result c.from_residual-in_err-value.ensures.1 in
    rw (p.1, p.2, c.in_ok-at.was) (found_refused c.loop-x.invariant (omega arith) c.in_err-value.ensures)

pub returns : goal.returns
returns g c = rw c.in_ok-at.was (found_all c.loop-x.invariant (omega arith))
