use Rattle.layout.specs.Steps.Chain.{◌◂◌}
use Rattle.fields.specs.Laws.Gives.{◌⟩◌}
use Rattle.fields.specs.Laws.Exits.{begins, exit}
use Rattle.look.proofs.areas.area_style.Goals as goal

pub returns-in_err-alignment : goal.returns-in_err-alignment
returns-in_err-alignment c = exit _ _ _ _ _ c.from_residual.ensures (search begins depth 20) c.in_err-alignment.ensures

pub returns-in_err-font : goal.returns-in_err-font
returns-in_err-font c = exit _ _ _ _ _ c.from_residual-in_err-font.ensures (search begins depth 20) (c.in_err-font.ensures ◂ c.in_ok-alignment.ensures.reads)

pub returns-in_err-typeface : goal.returns-in_err-typeface
returns-in_err-typeface c = exit _ _ _ _ _ c.from_residual-in_err-typeface.ensures (search begins depth 20) (c.in_err-typeface.ensures ◂ (c.in_ok-alignment.ensures ⟩ c.in_ok-font.ensures).reads)

pub returns : goal.returns
returns c = c.in_ok-alignment.ensures ⟩ c.in_ok-font.ensures ⟩ c.in_ok-typeface.ensures
