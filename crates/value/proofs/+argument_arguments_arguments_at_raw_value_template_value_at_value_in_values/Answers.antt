use Rattle.std.proofs.Common.{◌≡◌, ◌+◌, ◌-◌, arith, ap, refl, eq-eqb, ne_eqb}
use Rattle.std.proofs.lemmas.Result.{err_from_is_err_and}
use Rattle.grammar.specs.Value as grammar
use Rattle.grammar.specs.Layout.{passes}
use Rattle.std.specs.Prelude.{Ok}
use Rattle.layout.specs.Reads.{skip}
use Rattle.layout.specs.Steps.{reads}
use Rattle.layout.specs.Steps.Chain.{then, from_refused, in_same, times_none, left_more, left_none, left_kept}
use Rattle.layout.specs.Steps.Onward.{less_room}
use Rattle.sizes.specs.Basics.{among, pick}
use Rattle.value.specs.Laws.Forms.{value_onward, argument_onward, too_deep, after_zeros, form_of, long_form, long_form_left_out, no_form}
use Rattle.value.proofs.+argument_arguments_arguments_at_raw_value_template_value_at_value_in_values.Goals as goal

pub argument-returns-then-x-eq0 : goal.argument-returns-then-x-eq0
unfolding grammar.ArgumentOf pick passes
argument-returns-then-x-eq0 t c = let e = eq-eqb _ _ c.if-x-eq0.true in search reads

pub argument-returns : goal.argument-returns
unfolding grammar.ArgumentOf pick passes
argument-returns t c = let e = ne_eqb _ _ c.if-x-eq0.false in search reads

pub arguments-returns-in_err-at : goal.arguments-returns-in_err-at
arguments-returns-in_err-at t c =
    let p = err_from_is_err_and c.from_residual.result c.from_residual.ensures.1 in
    rw (p.1, p.2, c.in_err-at.was) (from_refused refl)

pub arguments-returns-then-n-eq0 : goal.arguments-returns-then-n-eq0
arguments-returns-then-n-eq0 t c = rw c.in_ok-at.was (times_none _ (omega arith))

pub arguments-returns : goal.arguments-returns
arguments-returns t c = rw c.in_ok-at.was (in_same c.whole.ensures c.arguments_at.ensures)

pub arguments_at-loop-init : goal.arguments_at-loop-init
arguments_at-loop-init t c =
    let k : c.args.n - 0 ≡ c.args.n = omega arith in
    (rw k (λ r h. h), omega arith)

pub arguments_at-returns-in_err-at : goal.arguments_at-returns-in_err-at
arguments_at-returns-in_err-at t c =
    let p = err_from_is_err_and c.from_residual.result c.from_residual.ensures.1 in
    rw (p.1, p.2) (left_kept (left_more c.loop.invariant.0 (omega arith) c.in_err-at.ensures) refl)

pub arguments_at-loop-preserved : goal.arguments_at-loop-preserved
arguments_at-loop-preserved t c =
    let k : c.args.n - (c.loop.counter + 1) ≡ c.args.n - c.loop.counter - 1 = omega arith in
    (rw k (left_more c.loop.invariant.0 (omega arith) c.in_ok-at.ensures), omega (arith, less_room (argument_onward _ _) refl c.in_ok-at.ensures))

pub arguments_at-returns : goal.arguments_at-returns
arguments_at-returns t c = left_none c.loop.invariant.0 (omega arith)

pub raw_value-returns-then-version-eq1 : goal.raw_value-returns-then-version-eq1
raw_value-returns-then-version-eq1 t c = long_form_left_out _ _ c.in-49.is (eq-eqb _ _ c.if-version-eq1.true) c.peek-x.ensures c.field.ensures

pub raw_value-returns-in-1 : goal.raw_value-returns-in-1
unfolding among pick
raw_value-returns-in-1 t c = form_of _ _ c.in-1.is refl refl c.form_01.ensures c.peek-x.ensures c.any-next.ensures.low

pub raw_value-returns-in-2 : goal.raw_value-returns-in-2
unfolding among pick
raw_value-returns-in-2 t c = form_of _ _ c.in-2.is refl refl c.form_02.ensures c.peek-x.ensures c.any-next.ensures.low

pub raw_value-returns-in-3 : goal.raw_value-returns-in-3
unfolding among pick
raw_value-returns-in-3 t c = form_of _ _ c.in-3.is refl refl c.form_03.ensures c.peek-x.ensures c.any-next.ensures.low

pub raw_value-returns-in-4 : goal.raw_value-returns-in-4
unfolding among pick
raw_value-returns-in-4 t c = form_of _ _ c.in-4.is refl refl c.form_04.ensures c.peek-x.ensures c.any-next.ensures.low

pub raw_value-returns-in-5 : goal.raw_value-returns-in-5
unfolding among pick
raw_value-returns-in-5 t c = form_of _ _ c.in-5.is refl refl c.form_05.ensures c.peek-x.ensures c.any-next.ensures.low

pub raw_value-returns-in-6 : goal.raw_value-returns-in-6
unfolding among pick
raw_value-returns-in-6 t c = form_of _ _ c.in-6.is refl refl c.form_06.ensures c.peek-x.ensures c.any-next.ensures.low

pub raw_value-returns-else-version-eq1 : goal.raw_value-returns-else-version-eq1
unfolding pick
raw_value-returns-else-version-eq1 t c =
    long_form _ _ c.in-49.is (ne_eqb _ _ c.if-version-eq1.false) (then c.template.ensures c.modifiers.ensures) c.peek-x.ensures c.any-next.ensures.low

pub raw_value-returns-in-88 : goal.raw_value-returns-in-88
unfolding among pick
raw_value-returns-in-88 t c = form_of _ _ c.in-88.is refl refl c.template-in-88.ensures c.peek-x.ensures c.any-next.ensures.low

pub raw_value-returns-in_default : goal.raw_value-returns-in_default
raw_value-returns-in_default t c =
    no_form _ _
    ((((((((tt, omega arith), omega arith), omega arith), omega arith), omega arith), omega arith), omega arith), omega arith)
    c.peek-x.ensures c.field-in_default.ensures

pub template-returns : goal.template-returns
unfolding grammar.TemplateOf pick passes
template-returns t c = search reads

pub value_at-returns-then-depth-eq0 : goal.value_at-returns-then-depth-eq0
value_at-returns-then-depth-eq0 t c = too_deep _ _ c.if-depth-eq0.true c.nothing.ensures

pub value_at-returns : goal.value_at-returns
unfolding skip
value_at-returns t c = after_zeros _ _ c.if-depth-eq0.false (in_same c.whole.ensures c.raw_value.ensures) (ap Ok c.past.ensures)

pub value_in-returns-in_err-st : goal.value_in-returns-in_err-st
value_in-returns-in_err-st t c =
    let p = err_from_is_err_and c.from_residual.result c.from_residual.ensures.1 in
    rw (p.1, p.2, c.in_err-st.was) (from_refused refl)

pub value_in-returns : goal.value_in-returns
value_in-returns t c = rw c.in_ok-st.was c.value_at.ensures

pub values-returns-in_err-next : goal.values-returns-in_err-next
values-returns-in_err-next t c =
    let p = err_from_is_err_and c.from_residual.result c.from_residual.ensures.1 in
    rw (p.1, p.2, c.in_err-next.was) (from_refused refl)

pub values-loop-init : goal.values-loop-init
values-loop-init t c =
    let k : c.args.n - 0 ≡ c.args.n = omega arith in
    (rw k (λ r h. h), omega arith)

pub values-returns-in_err-next-2 : goal.values-returns-in_err-next-2
values-returns-in_err-next-2 t c =
    let p = err_from_is_err_and c.from_residual-in_err-next-2.result c.from_residual-in_err-next-2.ensures.1 in
    rw (p.1, p.2, c.in_ok-next.was) (left_kept (left_more c.loop.invariant.0 (omega arith) c.in_err-next-2.ensures) refl)

pub values-loop-preserved : goal.values-loop-preserved
values-loop-preserved t c =
    let k : c.args.n - (c.loop.counter + 1) ≡ c.args.n - c.loop.counter - 1 = omega arith in
    (rw k (left_more c.loop.invariant.0 (omega arith) c.in_ok-next-2.ensures), omega (arith, less_room (value_onward _ _) refl c.in_ok-next-2.ensures))

pub values-returns : goal.values-returns
values-returns t c = rw c.in_ok-next.was (left_none c.loop.invariant.0 (omega arith))
