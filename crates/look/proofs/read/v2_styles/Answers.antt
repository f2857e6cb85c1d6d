use Rattle.layout.specs.Steps.Chain.{◌◂◌}
use Rattle.fields.specs.Laws.Gives.{◌⟩◌}
use Rattle.fields.specs.Laws.Exits.{begins, exit}
use Rattle.look.proofs.read.v2_styles.Goals as goal

pub returns-in_err-frames : goal.returns-in_err-frames
returns-in_err-frames c = exit _ _ _ _ _ c.from_residual.ensures (search begins depth 20) c.in_err-frames.ensures

pub returns-in_err-stored : goal.returns-in_err-stored
returns-in_err-stored c = exit _ _ _ _ _ c.from_residual-in_err-stored.ensures (search begins depth 20) (c.in_err-stored.ensures ◂ c.in_ok-frames.ensures.reads)

pub returns-in_err-min_col_width : goal.returns-in_err-min_col_width
returns-in_err-min_col_width c = exit _ _ _ _ _ c.from_residual-in_err-min_col_width.ensures (search begins depth 20) (c.in_err-min_col_width.ensures ◂ (c.in_ok-frames.ensures ⟩ c.in_ok-stored.ensures).reads)

pub returns-in_err-max_col_width : goal.returns-in_err-max_col_width
returns-in_err-max_col_width c = exit _ _ _ _ _ c.from_residual-in_err-max_col_width.ensures (search begins depth 20) (c.in_err-max_col_width.ensures ◂ (c.in_ok-frames.ensures ⟩ c.in_ok-stored.ensures ⟩ c.in_ok-min_col_width.ensures).reads)

pub returns-in_err-min_row_height : goal.returns-in_err-min_row_height
returns-in_err-min_row_height c = exit _ _ _ _ _ c.from_residual-in_err-min_row_height.ensures (search begins depth 20) (c.in_err-min_row_height.ensures ◂ (c.in_ok-frames.ensures ⟩ c.in_ok-stored.ensures ⟩ c.in_ok-min_col_width.ensures ⟩ c.in_ok-max_col_width.ensures).reads)

pub returns-in_err-max_row_height : goal.returns-in_err-max_row_height
returns-in_err-max_row_height c = exit _ _ _ _ _ c.from_residual-in_err-max_row_height.ensures (search begins depth 20) (c.in_err-max_row_height.ensures ◂ (c.in_ok-frames.ensures ⟩ c.in_ok-stored.ensures ⟩ c.in_ok-min_col_width.ensures ⟩ c.in_ok-max_col_width.ensures ⟩ c.in_ok-min_row_height.ensures).reads)

pub returns : goal.returns
returns c = c.in_ok-frames.ensures ⟩ c.in_ok-stored.ensures ⟩ c.in_ok-min_col_width.ensures ⟩ c.in_ok-max_col_width.ensures ⟩ c.in_ok-min_row_height.ensures ⟩ c.in_ok-max_row_height.ensures
