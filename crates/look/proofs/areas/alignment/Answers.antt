use Rattle.layout.specs.Steps.Chain.{◌◂◌}
use Rattle.fields.specs.Laws.Gives.{◌⟩◌}
use Rattle.fields.specs.Laws.Exits.{begins, exit}
use Rattle.look.proofs.areas.alignment.Goals as goal

pub returns-in_err-valign : goal.returns-in_err-valign
returns-in_err-valign c = exit _ _ _ _ _ c.from_residual.ensures (search begins depth 20) c.in_err-valign.ensures

pub returns-in_err-halign : goal.returns-in_err-halign
returns-in_err-halign c = exit _ _ _ _ _ c.from_residual-in_err-halign.ensures (search begins depth 20) (c.in_err-halign.ensures ◂ c.in_ok-valign.ensures.reads)

pub returns-in_err-decimal_offset : goal.returns-in_err-decimal_offset
returns-in_err-decimal_offset c = exit _ _ _ _ _ c.from_residual-in_err-decimal_offset.ensures (search begins depth 20) (c.in_err-decimal_offset.ensures ◂ (c.in_ok-valign.ensures ⟩ c.in_ok-halign.ensures).reads)

pub returns-in_err-left_margin : goal.returns-in_err-left_margin
returns-in_err-left_margin c = exit _ _ _ _ _ c.from_residual-in_err-left_margin.ensures (search begins depth 20) (c.in_err-left_margin.ensures ◂ (c.in_ok-valign.ensures ⟩ c.in_ok-halign.ensures ⟩ c.in_ok-decimal_offset.ensures).reads)

pub returns-in_err-right_margin : goal.returns-in_err-right_margin
returns-in_err-right_margin c = exit _ _ _ _ _ c.from_residual-in_err-right_margin.ensures (search begins depth 20) (c.in_err-right_margin.ensures ◂ (c.in_ok-valign.ensures ⟩ c.in_ok-halign.ensures ⟩ c.in_ok-decimal_offset.ensures ⟩ c.in_ok-left_margin.ensures).reads)

pub returns-in_err-top_margin : goal.returns-in_err-top_margin
returns-in_err-top_margin c = exit _ _ _ _ _ c.from_residual-in_err-top_margin.ensures (search begins depth 20) (c.in_err-top_margin.ensures ◂ (c.in_ok-valign.ensures ⟩ c.in_ok-halign.ensures ⟩ c.in_ok-decimal_offset.ensures ⟩ c.in_ok-left_margin.ensures ⟩ c.in_ok-right_margin.ensures).reads)

pub returns-in_err-bottom_margin : goal.returns-in_err-bottom_margin
returns-in_err-bottom_margin c = exit _ _ _ _ _ c.from_residual-in_err-bottom_margin.ensures (search begins depth 20) (c.in_err-bottom_margin.ensures ◂ (c.in_ok-valign.ensures ⟩ c.in_ok-halign.ensures ⟩ c.in_ok-decimal_offset.ensures ⟩ c.in_ok-left_margin.ensures ⟩ c.in_ok-right_margin.ensures ⟩ c.in_ok-top_margin.ensures).reads)

pub returns-in_err-end : goal.returns-in_err-end
returns-in_err-end c = exit _ _ _ _ _ c.from_residual-in_err-end.ensures (search begins depth 20) (c.in_err-end.ensures.reads ◂ (c.in_ok-valign.ensures ⟩ c.in_ok-halign.ensures ⟩ c.in_ok-decimal_offset.ensures ⟩ c.in_ok-left_margin.ensures ⟩ c.in_ok-right_margin.ensures ⟩ c.in_ok-top_margin.ensures ⟩ c.in_ok-bottom_margin.ensures ⟩ c.fixed_byte-st.ensures ⟩ c.fixed_byte-st-2.ensures ⟩ c.fixed_byte-st-3.ensures).reads)

pub returns : goal.returns
returns c = c.in_ok-valign.ensures ⟩ c.in_ok-halign.ensures ⟩ c.in_ok-decimal_offset.ensures ⟩ c.in_ok-left_margin.ensures ⟩ c.in_ok-right_margin.ensures ⟩ c.in_ok-top_margin.ensures ⟩ c.in_ok-bottom_margin.ensures ⟩ c.fixed_byte-st.ensures ⟩ c.fixed_byte-st-2.ensures ⟩ c.fixed_byte-st-3.ensures ⟩ c.in_ok-end.ensures
