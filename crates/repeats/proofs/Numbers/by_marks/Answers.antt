use Rattle.std.proofs.Common.{arith}
use Rattle.grammar.specs.RecordWords.{firsts}
use Rattle.repeats.specs.Laws.Repeats.{none_new, one_more_new, found_at, none_found, marked_old, marked_new, one_marked}
use Rattle.repeats.proofs.Numbers.by_marks.Goals as goal

pub loop-k-init : goal.loop-k-init
unfolding firsts
loop-k-init c = (omega arith, c.requires, none_new _)

pub returns-then-marks-x-ne0 : goal.returns-then-marks-x-ne0
returns-then-marks-x-ne0 c =
    let i = c.loop-k.invariant in
    let b = marked_old _ _ _ _ _ _ i.1 c.nth-x.ensures (omega arith) c.if-marks-x-ne0.true in
    record {
      few = omega arith;
      counted = omega arith;
      found = record { first = found_at _ _ _ i.2 (omega arith) b; few = omega arith; counted = omega arith };
    }

pub loop-k-preserved : goal.loop-k-preserved
loop-k-preserved c =
    let i = c.loop-k.invariant in (
      omega arith,
      one_marked _ _ _ _ _ _ i.1 c.nth-x.ensures (omega arith),
      one_more_new _ _ i.2 (marked_new _ _ _ _ _ _ i.1 c.nth-x.ensures (omega arith) c.if-marks-x-ne0.false),
    )

pub returns : goal.returns
returns c =
    record {
      few = omega arith;
      counted = omega arith;
      found = record { first = none_found _ _ _ c.loop-k.invariant.2 (omega arith); few = omega arith; counted = omega arith };
    }
