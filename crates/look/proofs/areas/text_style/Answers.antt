use Rattle.layout.specs.Steps.Chain.{◌◂◌}
use Rattle.fields.specs.Laws.Gives.{◌⟩◌}
use Rattle.fields.specs.Laws.Exits.{begins, exit}
use Rattle.look.specs.Look.{PVText_style_name}
use Rattle.look.proofs.areas.text_style.Goals as goal

pub returns-in_err-title : goal.returns-in_err-title
unfolding PVText_style_name
returns-in_err-title c = exit _ _ _ _ _ c.from_residual.ensures (search begins depth 20) (c.in_err-title.ensures ◂ (c.section-st.ensures ⟩ c.fixed_byte-st.ensures).reads)

pub returns-in_err-most : goal.returns-in_err-most
unfolding PVText_style_name
returns-in_err-most c = exit _ _ _ _ _ c.from_residual-in_err-most.ensures (search begins depth 20) (c.in_err-most.ensures ◂ (c.section-st.ensures ⟩ c.fixed_byte-st.ensures ⟩ c.in_ok-title.ensures).reads)

pub returns : goal.returns
unfolding PVText_style_name
returns c = c.section-st.ensures ⟩ c.fixed_byte-st.ensures ⟩ c.in_ok-title.ensures ⟩ c.in_ok-most.ensures
