use Rattle.std.proofs.Common.{arith}
use Rattle.repeats.specs.Laws.Repeats.{ascends_more, none_found}
use Rattle.repeats.proofs.Numbers.ascend.Goals as goal

pub loop-j-preserved : goal.loop-j-preserved
loop-j-preserved c = (omega arith, omega arith, ascends_more _ c.loop-j.invariant.2 c.nth-x.ensures (omega arith))

pub returns-clause-none : goal.returns-clause-none
returns-clause-none c e =
    record { first = none_found _ _ _ c.loop-j.invariant.2.news (omega arith); few = omega arith; counted = omega arith }
