use Rattle.std.proofs.Common.{refl, arith}
use Rattle.std.proofs.lemmas.Result.{err_from_is_err_and}
use Rattle.table.specs.Laws.Within.{room_after}
use Rattle.table.specs.Laws.Dims.{node_record_sizes, passing, passes_on, passes_off, passes_to}
use Rattle.table.proofs.dimension.all.Goals as goal

pub loop-i-init : goal.loop-i-init
loop-i-init c = (refl, (passing _) _ _ _ _ _)

pub dimension-requires : goal.dimension-requires
dimension-requires c =
    (omega arith, rw c.loop-i.invariant.0 (room_after node_record_sizes (omega (arith, c.loop-i.invariant.1.bytes)) c.requires.1))

pub returns-in_err-reached : goal.returns-in_err-reached
returns-in_err-reached c =
    let p = err_from_is_err_and c.from_residual.result c.from_residual.ensures.1 in
    rw (p.1, p.2) (passes_off _ _ _ _ _ _ c.loop-i.invariant.1 (omega arith) (rw c.in_err-reached.was at c.dimension.ensures))

pub loop-i-preserved : goal.loop-i-preserved
loop-i-preserved c = (omega arith, passes_on _ _ _ _ _ _ c.loop-i.invariant.1 (omega arith) (rw c.in_ok-reached.was at c.dimension.ensures))

pub returns : goal.returns
returns c = passes_to _ _ _ _ _ _ c.loop-i.invariant.1 (omega arith)
