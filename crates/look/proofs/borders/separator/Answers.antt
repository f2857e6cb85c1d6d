use Rattle.std.proofs.Common.{ap, ◌∙◌, ℕ, eqb}
use Rattle.std.proofs.lemmas.Bool.{ne_eqb}
use Rattle.layout.specs.Steps.Chain.{◌◂◌}
use Rattle.layout.specs.Steps.Numbers.{switch_of, switch_key}
use Rattle.fields.specs.Laws.Shows.{peeked}
use Rattle.fields.specs.Laws.Gives.{first_of_two, switch_known, ◌⟩◌}
use Rattle.look.specs.Look as grammar
use Rattle.fields.specs.Laws.Exits.{whole, more, early, exit}
use Rattle.look.proofs.borders.separator.Goals as goal

pub returns-in_err-st : goal.returns-in_err-st
returns-in_err-st c =
    exit _ _ _ _ _ c.from_residual.ensures whole
    (switch_of {k = λ type. grammar.SeparatorIf (eqb type 1)} (rw (ne_eqb _ _ c.if-not-drawn.true) c.in_err-st.ensures.reads) c.peek-drawn.ensures c.one_of_two-st.ensures)

pub returns-then-not-drawn : goal.returns-then-not-drawn
returns-then-not-drawn c =
    switch_known (λ type. grammar.SeparatorIf (eqb type 1))
    (λ at n i x. first_of_two x (ap (λ (v : ℕ). eqb v 1) (peeked c.args.s.now at x i c.peek-drawn.ensures) ∙ ne_eqb _ _ c.if-not-drawn.true))
    c.one_of_two-st.ensures c.in_ok-st.ensures

pub returns-in_err-color : goal.returns-in_err-color
returns-in_err-color c =
    exit _ _ _ _ _ c.from_residual-in_err-color.ensures whole
    (switch_key {k = λ type. grammar.SeparatorIf (eqb type 1)} c.if-not-drawn.false (early (more (more whole)) (c.in_err-color.ensures ◂ c.fixed_byte-st.ensures.reads)) c.peek-drawn.ensures c.one_of_two-st.ensures)

pub returns-in_err-style : goal.returns-in_err-style
returns-in_err-style c =
    exit _ _ _ _ _ c.from_residual-in_err-style.ensures whole
    (switch_key {k = λ type. grammar.SeparatorIf (eqb type 1)} c.if-not-drawn.false (early (more whole) (c.in_err-style.ensures ◂ (c.fixed_byte-st.ensures ⟩ c.in_ok-color.ensures).reads)) c.peek-drawn.ensures c.one_of_two-st.ensures)

pub returns-in_err-width : goal.returns-in_err-width
returns-in_err-width c =
    exit _ _ _ _ _ c.from_residual-in_err-width.ensures whole
    (switch_key {k = λ type. grammar.SeparatorIf (eqb type 1)} c.if-not-drawn.false (c.in_err-width.ensures ◂ (c.fixed_byte-st.ensures ⟩ c.in_ok-color.ensures ⟩ c.in_ok-style.ensures).reads) c.peek-drawn.ensures c.one_of_two-st.ensures)

pub returns : goal.returns
returns c =
    switch_known (λ type. grammar.SeparatorIf (eqb type 1))
    (λ at n i x. peeked c.args.s.now at x i c.peek-drawn.ensures ∙ c.if-not-drawn.false)
    c.one_of_two-st.ensures
    (c.fixed_byte-st.ensures ⟩ c.in_ok-color.ensures ⟩ c.in_ok-style.ensures ⟩ c.in_ok-width.ensures)
