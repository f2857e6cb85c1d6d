use Rattle.std.proofs.Common.{refl, sym, ◌∙◌, arith, ne_eqb}
use Rattle.sizes.specs.Basics.{pick, among}
use Rattle.layout.specs.Steps.Slices.{bytes_of}
use Rattle.contents.specs.Contents.{chosen, either}
use Rattle.contents.proofs.Unread.{is_read, is_unread}
use Rattle.contents.proofs.Values.{form_value}
use Rattle.contents.proofs.Laws.Figure.{figure_unread, figure_other}
use Rattle.contents.proofs.Figures.{figure_value}
use Rattle.contents.proofs.figure.figure_at.Goals as goal

pub returns-then-is_err-clause-value : goal.returns-then-is_err-clause-value
unfolding pick among chosen either
returns-then-is_err-clause-value c = figure_unread _ (bytes_of _ c.type_inv.s) refl (is_unread _ _ _ c.readable.ensures (sym c.is_err.ensures.value ∙ c.if-is_err.true)) refl

pub returns-in-1-clause-value : goal.returns-in-1-clause-value
unfolding pick among chosen either
returns-in-1-clause-value c =
    figure_value _ (bytes_of _ c.type_inv.s) _ _ (is_read _ _ _ c.readable.ensures (sym c.is_err.ensures.value ∙ c.if-is_err.false)) c.cell_zeros.ensures
    (form_value _ _ _ _ _ _ c.in-1.is refl refl c.form_01.ensures c.peek.ensures c.any-at.ensures.low) c.skip-start.ensures c.figure_of.ensures.value

pub returns-in-2-clause-value : goal.returns-in-2-clause-value
unfolding pick among chosen either
returns-in-2-clause-value c =
    figure_value _ (bytes_of _ c.type_inv.s) _ _ (is_read _ _ _ c.readable.ensures (sym c.is_err.ensures.value ∙ c.if-is_err.false)) c.cell_zeros.ensures
    (form_value _ _ _ _ _ _ c.in-2.is refl refl c.form_02.ensures c.peek.ensures c.any-at.ensures.low) c.skip-start.ensures c.figure_of-in-2.ensures.value

pub returns-in_default-clause-value : goal.returns-in_default-clause-value
unfolding pick among chosen either
returns-in_default-clause-value c =
    figure_other _ (bytes_of _ c.type_inv.s) (is_read _ _ _ c.readable.ensures (sym c.is_err.ensures.value ∙ c.if-is_err.false)) c.cell_zeros.ensures
    c.skip-start.ensures c.peek.ensures (ne_eqb _ _ (omega arith)) (ne_eqb _ _ (omega arith)) refl

pub returns-in-1-clause-there : goal.returns-in-1-clause-there
returns-in-1-clause-there c = c.figure_of.ensures.there

pub returns-in-2-clause-there : goal.returns-in-2-clause-there
returns-in-2-clause-there c = c.figure_of-in-2.ensures.there

pub returns-in_default-clause-there : goal.returns-in_default-clause-there
unfolding among
returns-in_default-clause-there c = tt
