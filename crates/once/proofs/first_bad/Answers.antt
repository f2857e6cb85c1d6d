use Rattle.std.proofs.Common.{sym, ap, ◌∙◌, arith}
use mathlib.Core.Option.{some}
use Rattle.once.proofs.Walk.{at_end, past_group}
use Rattle.once.proofs.Marks.{unmarked, past_leaf, too_big, met_before}
use Rattle.once.proofs.first_bad.Goals as goal
use Rattle.once.proofs.first_bad.Goals.{then-is_leaf+else-end-x+else-marks-x-ne0, else-is_leaf, then-end-x-via-then-end-x, then-end-x-via-else-end-x+then-marks-x-ne0}

pub loop-i-init : goal.loop-i-init
loop-i-init c = unmarked _ _ _ _

pub returns-then-end-x : goal.returns-then-end-x
returns-then-end-x c =
    let w = c.loop-i.invariant in
    let h = c.loop-i-test.true in
    let l = sym c.is_leaf.ensures ∙ c.if-is_leaf.true in
    let x = c.leaf_index-x.ensures in
    ap some c.index_place.ensures
    ∙ elim c.then-end-x.branch [
      | then-end-x-via-then-end-x v ↦ too_big w h l _ x (omega (arith, c.min-end.ensures))
      | then-end-x-via-else-end-x+then-marks-x-ne0 v ↦ met_before w h l _ x (omega arith) v.if-marks-x-ne0.true
    ]

pub loop-i-preserved : goal.loop-i-preserved
loop-i-preserved c =
    let i = c.loop-i.invariant in
    let h = c.loop-i-test.true in
    elim c.if-is_leaf.branch [
      | then-is_leaf+else-end-x+else-marks-x-ne0 w ↦
          rw w.marks-is
          (past_leaf i h (sym c.is_leaf.ensures ∙ w.if-is_leaf.true) _ w.leaf_index-x.ensures (omega arith) (omega arith) w.if-marks-x-ne0.false)
      | else-is_leaf w ↦ rw w.marks-is (past_group i h (sym c.is_leaf.ensures ∙ w.if-is_leaf.false))
    ]

pub returns : goal.returns
returns c = sym (at_end c.loop-i.invariant (omega arith))
