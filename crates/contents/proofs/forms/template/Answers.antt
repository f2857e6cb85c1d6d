use Rattle.std.proofs.Common.{refl}
use Rattle.grammar.specs.Layout.{little, times}
use Rattle.grammar.specs.Value.{ArgumentOf, ValueIn, TemplateOf}
use Rattle.sizes.specs.Sizes.{below_value}
use Rattle.layout.specs.Steps.Chain.{◌◂◌, from_refused}
use Rattle.layout.specs.Steps.Numbers.{switch_of}
use Rattle.fields.specs.Laws.Slices.{peek_fits}
use Rattle.fields.specs.Laws.Exits.{whole, more, exit_shows}
use Rattle.contents.specs.Laws.Forms.{template_shows}
use Rattle.contents.proofs.forms.template.Goals as goal

pub returns-in_err-template : goal.returns-in_err-template
unfolding TemplateOf
returns-in_err-template c = exit_shows _ _ _ _ _ _ c.from_residual.ensures (more whole) c.in_err-template.ensures

pub returns-in_err-first_argument : goal.returns-in_err-first_argument
unfolding TemplateOf
returns-in_err-first_argument c =
    exit_shows _ _ _ _ _ _ c.from_residual-in_err-first_argument.ensures whole
    (switch_of {k = λ n. times n (ArgumentOf (ValueIn c.args.version below_value))} {v = c.peek-n.result} (from_refused refl) c.peek-n.ensures c.in_err-first_argument.ensures.low
    ◂ c.in_ok-template.ensures.reads)

pub returns-in_err-end : goal.returns-in_err-end
unfolding TemplateOf
returns-in_err-end c =
    exit_shows _ _ _ _ _ _ c.from_residual-in_err-end.ensures whole
    (switch_of {k = λ n. times n (ArgumentOf (ValueIn c.args.version below_value))} {v = c.peek-n.result} c.in_err-end.ensures c.peek-n.ensures c.in_ok-first_argument.ensures.low
    ◂ c.in_ok-template.ensures.reads)

pub overflow_cast-value : goal.overflow_cast-value
overflow_cast-value c = record { fits = peek_fits little 4 _ c.type_inv.s _ c.peek-n.ensures }

pub returns : goal.returns
returns c = template_shows _ c.in_ok-template.ensures c.peek-n.ensures c.in_ok-first_argument.ensures.low c.in_ok-end.ensures refl
