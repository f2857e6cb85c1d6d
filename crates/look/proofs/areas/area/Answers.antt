use Rattle.layout.specs.Steps.Chain.{◌◂◌}
use Rattle.fields.specs.Laws.Gives.{◌⟩◌}
use Rattle.fields.specs.Laws.Exits.{begins, exit}
use Rattle.look.proofs.areas.area.Goals as goal

pub returns-in_err-color : goal.returns-in_err-color
returns-in_err-color c = exit _ _ _ _ _ c.from_residual.ensures (search begins depth 20) (c.in_err-color.ensures ◂ (c.fixed_byte-st.ensures ⟩ c.fixed_byte-st-2.ensures).reads)

pub returns-in_err-style : goal.returns-in_err-style
returns-in_err-style c = exit _ _ _ _ _ c.from_residual-in_err-style.ensures (search begins depth 20) (c.in_err-style.ensures ◂ (c.fixed_byte-st.ensures ⟩ c.fixed_byte-st-2.ensures ⟩ c.in_ok-color.ensures ⟩ c.fixed_byte-st-3.ensures ⟩ c.fixed_byte-st-4.ensures ⟩ c.fixed_byte-st-5.ensures).reads)

pub returns : goal.returns
returns c = c.fixed_byte-st.ensures ⟩ c.fixed_byte-st-2.ensures ⟩ c.in_ok-color.ensures ⟩ c.fixed_byte-st-3.ensures ⟩ c.fixed_byte-st-4.ensures ⟩ c.fixed_byte-st-5.ensures ⟩ c.in_ok-style.ensures
