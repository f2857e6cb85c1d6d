use Rattle.std.proofs.Common.{◌<◌, ◌-◌, length, get_or, eq-eqb, ne_eqb, refl, sym, ◌∙◌, arith}
use lib.ListN.{drop_of_length-le}
use Rattle.sizes.specs.Sizes.{most_dimensions}
use Rattle.grammar.specs.RecordWords.{word}
use Rattle.once.specs.Laws.Marks.{no_marks, marked}
use Rattle.position.specs.Answers.{each_axis_once}
use Rattle.position.proofs.Fronts.{n_back}
use Rattle.position.proofs.Steps.{too_high, repeated, one_new, not_all, marked_again, not_marked}
use Rattle.position.proofs.permutes.Goals as goal
use Rattle.position.proofs.permutes.Goals.{then-order-e-via-then-order-e, then-order-e-via-else-order-e+then-marks-e-ne0}

pub loop-i-init : goal.loop-i-init
unfolding each_axis_once
loop-i-init c =
    let z = drop_of_length-le c.args.order.now {i = length c.args.order.now} (omega arith) in
    (rw z (no_marks most_dimensions), rw z)

pub returns-then-order-e : goal.returns-then-order-e
unfolding word
returns-then-order-e c =
    let l = c.loop-i in
    let f = n_back c.args.order.now l.i (omega arith) (omega arith) in
    not_all _ _ (l.i - 1) (omega arith)
    (elim c.then-order-e.branch [
      | then-order-e-via-then-order-e w ↦ too_high _ f refl refl w.if-order-e.true
      | then-order-e-via-else-order-e+then-marks-e-ne0 w ↦ repeated _ f refl refl (omega arith) refl (marked_again _ (sym (l.invariant.0.says _ (omega arith)) ∙ ne_eqb _ _ w.if-marks-e-ne0.true))
    ])

pub loop-i-preserved : goal.loop-i-preserved
unfolding word
loop-i-preserved c =
    let l = c.loop-i in
    let low : get_or c.args.order.now (l.i - 1) 0 < most_dimensions = omega arith in
    let f = n_back c.args.order.now l.i (omega arith) (omega arith) in (
      rw f (marked most_dimensions l.marks _ _ l.invariant.0 low),
      sym (one_new _ f refl refl (omega arith) refl (not_marked _ (sym (l.invariant.0.says _ low) ∙ eq-eqb _ _ c.if-marks-e-ne0.false))) ∙ l.invariant.1,
    )
