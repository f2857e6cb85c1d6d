use Rattle.layout.specs.Steps.Chain.{◌◂◌}
use Rattle.fields.specs.Laws.Gives.{◌⟩◌}
use Rattle.fields.specs.Laws.Exits.{begins, exit}
use Rattle.look.specs.Look.{PVSeparator_style_name}
use Rattle.look.proofs.borders.separator_style.Goals as goal

pub returns-in_err-rows : goal.returns-in_err-rows
unfolding PVSeparator_style_name
returns-in_err-rows c = exit _ _ _ _ _ c.from_residual.ensures (search begins depth 20) (c.in_err-rows.ensures ◂ (c.section-st.ensures ⟩ c.fixed_byte-st.ensures).reads)

pub returns-in_err-columns : goal.returns-in_err-columns
unfolding PVSeparator_style_name
returns-in_err-columns c = exit _ _ _ _ _ c.from_residual-in_err-columns.ensures (search begins depth 20) (c.in_err-columns.ensures ◂ (c.section-st.ensures ⟩ c.fixed_byte-st.ensures ⟩ c.in_ok-rows.ensures ⟩ c.fixed_byte-st-2.ensures ⟩ c.fixed_byte-st-3.ensures ⟩ c.fixed_byte-st-4.ensures).reads)

pub returns : goal.returns
unfolding PVSeparator_style_name
returns c = c.section-st.ensures ⟩ c.fixed_byte-st.ensures ⟩ c.in_ok-rows.ensures ⟩ c.fixed_byte-st-2.ensures ⟩ c.fixed_byte-st-3.ensures ⟩ c.fixed_byte-st-4.ensures ⟩ c.in_ok-columns.ensures
