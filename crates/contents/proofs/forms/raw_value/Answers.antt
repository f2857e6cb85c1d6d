use Rattle.std.proofs.Common.{refl, arith, eq-eqb, ne_eqb}
use Rattle.sizes.specs.Basics.{pick, among}
use Rattle.value.specs.Laws.Forms.{long_form_left_out, no_form}
use Rattle.contents.specs.Contents.{chosen, either}
use Rattle.contents.proofs.Values.{modified_value, form_value, long_value, no_form_value}
use Rattle.contents.proofs.forms.raw_value.Goals as goal

pub returns-in-1 : goal.returns-in-1
unfolding pick among chosen either
returns-in-1 c = form_value _ _ _ _ _ _ c.in-1.is refl refl c.form_01.ensures c.peek-x.ensures c.any-at.ensures.low

pub returns-in-2 : goal.returns-in-2
unfolding pick among chosen either
returns-in-2 c = form_value _ _ _ _ _ _ c.in-2.is refl refl c.form_02.ensures c.peek-x.ensures c.any-at.ensures.low

pub returns-in-3 : goal.returns-in-3
unfolding pick among chosen either
returns-in-3 c = form_value _ _ _ _ _ _ c.in-3.is refl refl c.form_03.ensures c.peek-x.ensures c.any-at.ensures.low

pub returns-in-4 : goal.returns-in-4
unfolding pick among chosen either
returns-in-4 c = form_value _ _ _ _ _ _ c.in-4.is refl refl c.form_04.ensures c.peek-x.ensures c.any-at.ensures.low

pub returns-in-5 : goal.returns-in-5
unfolding pick among chosen either
returns-in-5 c = form_value _ _ _ _ _ _ c.in-5.is refl refl c.form_05.ensures c.peek-x.ensures c.any-at.ensures.low

pub returns-in-6 : goal.returns-in-6
unfolding pick among chosen either
returns-in-6 c = form_value _ _ _ _ _ _ c.in-6.is refl refl c.form_06.ensures c.peek-x.ensures c.any-at.ensures.low

pub returns-in-49 : goal.returns-in-49
unfolding pick among chosen either
returns-in-49 c =
    no_form_value _ _ _ _ _ 4 refl c.no_form.ensures
    (λ a e. long_form_left_out _ _ c.in-49.is (eq-eqb _ _ c.if-version-eq1.true) c.peek-x.ensures e)

pub returns-in-49-2 : goal.returns-in-49-2
unfolding pick among chosen either
returns-in-49-2 c =
    long_value _ _ _ _ _ _ c.in-49.is (ne_eqb _ _ c.if-version-eq1.false) (modified_value _ _ _ _ _ c.modifiers.ensures c.template.ensures)
    c.peek-x.ensures c.any-at.ensures.low

pub returns-in-88 : goal.returns-in-88
unfolding pick among chosen either
returns-in-88 c = form_value _ _ _ _ _ _ c.in-88.is refl refl c.template-in-88.ensures c.peek-x.ensures c.any-at.ensures.low

pub returns-in_default : goal.returns-in_default
unfolding pick among chosen either
returns-in_default c =
    no_form_value _ _ _ _ _ 3 refl c.no_form-in_default.ensures
    (λ a e. no_form _ _ ((((((((tt, omega arith), omega arith), omega arith), omega arith), omega arith), omega arith), omega arith), omega arith)
    c.peek-x.ensures e)
