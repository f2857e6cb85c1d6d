use Rattle.std.proofs.Common.{sym, arith}
use Rattle.repeats.specs.Laws.Repeats.{one_more_new, none_found}
use Rattle.repeats.proofs.Numbers.by_trees.Goals as goal

pub loop-place-preserved : goal.loop-place-preserved
loop-place-preserved c =
    let e = c.nth.ensures in
    let n = rw e at (c.look-old.ensures.absent c.if-old.false).1 in
    (omega arith, omega arith, c.look-old.ensures.grown c.if-old.false (sym e), one_more_new _ _ c.loop-place.invariant.3 n)

pub returns : goal.returns
returns c = record { first = none_found _ _ _ c.loop-place.invariant.3 (omega arith); few = omega arith; counted = omega arith }
