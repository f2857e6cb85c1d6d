use mir.Syntax.{w32}
use mir.ValLaws.{to_z-of_z}
use Rattle.layout.specs.Steps.Chain.{◌◂◌}
use Rattle.fields.specs.Laws.Gives.{◌⟩◌}
use Rattle.fields.specs.Laws.Exits.{begins, exit}
use Rattle.look.proofs.areas.font.Goals as goal

pub returns-in_err-font_size : goal.returns-in_err-font_size
returns-in_err-font_size c = exit _ _ _ _ _ c.from_residual.ensures (search begins depth 20) c.in_err-font_size.ensures.gives

pub returns-in_err-stretch : goal.returns-in_err-stretch
returns-in_err-stretch c = exit _ _ _ _ _ c.from_residual-in_err-stretch.ensures (search begins depth 20) (c.in_err-stretch.ensures ◂ c.in_ok-font_size.ensures.gives.reads)

pub returns-in_err-rotation_angle : goal.returns-in_err-rotation_angle
returns-in_err-rotation_angle c = exit _ _ _ _ _ c.from_residual-in_err-rotation_angle.ensures (search begins depth 20) (c.in_err-rotation_angle.ensures ◂ (c.in_ok-font_size.ensures.gives ⟩ c.in_ok-stretch.ensures ⟩ c.zeros-st.ensures).reads)

pub returns-in_err-weight : goal.returns-in_err-weight
returns-in_err-weight c = exit _ _ _ _ _ c.from_residual-in_err-weight.ensures (search begins depth 20) (c.in_err-weight.ensures ◂ (c.in_ok-font_size.ensures.gives ⟩ c.in_ok-stretch.ensures ⟩ c.zeros-st.ensures ⟩ c.in_ok-rotation_angle.ensures ⟩ c.zeros-st-2.ensures).reads)

pub returns-in_err-end : goal.returns-in_err-end
returns-in_err-end c = exit _ _ _ _ _ c.from_residual-in_err-end.ensures (search begins depth 20) (c.in_err-end.ensures.reads ◂ (c.in_ok-font_size.ensures.gives ⟩ c.in_ok-stretch.ensures ⟩ c.zeros-st.ensures ⟩ c.in_ok-rotation_angle.ensures ⟩ c.zeros-st-2.ensures ⟩ c.in_ok-weight.ensures).reads)

pub returns : goal.returns
returns c =
    let n = c.in_ok-font_size in
    rw (to_z-of_z w32 n.font_size n.ensures.fits)
    (n.ensures.gives ⟩ c.in_ok-stretch.ensures ⟩ c.zeros-st.ensures ⟩ c.in_ok-rotation_angle.ensures ⟩ c.zeros-st-2.ensures ⟩ c.in_ok-weight.ensures ⟩ c.in_ok-end.ensures)
