use Rattle.std.proofs.Common.{arith}
use Rattle.repeats.specs.Laws.Repeats.{one_more_new, none_found}
use Rattle.repeats.proofs.Numbers.by_pairs.Goals as goal

pub loop-k-preserved : goal.loop-k-preserved
loop-k-preserved c =
    let n = c.compare-old.ensures.absent c.if-old.false in
    (omega arith, omega arith, one_more_new _ _ c.loop-k.invariant.2 (rw c.nth.ensures at n.0))

pub returns : goal.returns
returns c = record { first = none_found _ _ _ c.loop-k.invariant.2 (omega arith); few = omega arith; counted = omega arith }
