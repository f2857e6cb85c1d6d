use Rattle.layout.specs.Steps.Chain.{◌◂◌}
use Rattle.fields.specs.Laws.Gives.{◌⟩◌}
use Rattle.fields.specs.Laws.Exits.{begins, exit}
use Rattle.look.proofs.areas.area_color.Goals as goal

pub returns-in_err-color10 : goal.returns-in_err-color10
returns-in_err-color10 c = exit _ _ _ _ _ c.from_residual.ensures (search begins depth 20) (c.in_err-color10.ensures ◂ (c.fixed_byte-st.ensures ⟩ c.fixed_byte-st-2.ensures ⟩ c.fixed_byte-st-3.ensures).reads)

pub returns-in_err-color0 : goal.returns-in_err-color0
returns-in_err-color0 c = exit _ _ _ _ _ c.from_residual-in_err-color0.ensures (search begins depth 20) (c.in_err-color0.ensures ◂ (c.fixed_byte-st.ensures ⟩ c.fixed_byte-st-2.ensures ⟩ c.fixed_byte-st-3.ensures ⟩ c.in_ok-color10.ensures).reads)

pub returns-in_err-shading : goal.returns-in_err-shading
returns-in_err-shading c = exit _ _ _ _ _ c.from_residual-in_err-shading.ensures (search begins depth 20) (c.in_err-shading.ensures ◂ (c.fixed_byte-st.ensures ⟩ c.fixed_byte-st-2.ensures ⟩ c.fixed_byte-st-3.ensures ⟩ c.in_ok-color10.ensures ⟩ c.in_ok-color0.ensures).reads)

pub returns-in_err-end : goal.returns-in_err-end
returns-in_err-end c = exit _ _ _ _ _ c.from_residual-in_err-end.ensures (search begins depth 20) (c.in_err-end.ensures.reads ◂ (c.fixed_byte-st.ensures ⟩ c.fixed_byte-st-2.ensures ⟩ c.fixed_byte-st-3.ensures ⟩ c.in_ok-color10.ensures ⟩ c.in_ok-color0.ensures ⟩ c.in_ok-shading.ensures).reads)

pub returns : goal.returns
returns c = c.fixed_byte-st.ensures ⟩ c.fixed_byte-st-2.ensures ⟩ c.fixed_byte-st-3.ensures ⟩ c.in_ok-color10.ensures ⟩ c.in_ok-color0.ensures ⟩ c.in_ok-shading.ensures ⟩ c.in_ok-end.ensures
