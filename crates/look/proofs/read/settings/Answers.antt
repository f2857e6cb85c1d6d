use Rattle.layout.specs.Steps.Chain.{◌◂◌}
use Rattle.fields.specs.Laws.Gives.{◌⟩◌}
use Rattle.fields.specs.Laws.Exits.{begins, exit}
use Rattle.look.proofs.read.settings.Goals as goal

pub returns-in_err-flags : goal.returns-in_err-flags
returns-in_err-flags c = exit _ _ _ _ _ c.from_residual.ensures (search begins depth 20) c.in_err-flags.ensures

pub returns-in_err-nested_row_labels : goal.returns-in_err-nested_row_labels
returns-in_err-nested_row_labels c = exit _ _ _ _ _ c.from_residual-in_err-nested_row_labels.ensures (search begins depth 20) (c.in_err-nested_row_labels.ensures ◂ (c.in_ok-flags.ensures ⟩ c.fixed_byte-st.ensures ⟩ c.fixed_byte-st-2.ensures).reads)

pub returns-in_err-footnote_marker_subscripts : goal.returns-in_err-footnote_marker_subscripts
returns-in_err-footnote_marker_subscripts c = exit _ _ _ _ _ c.from_residual-in_err-footnote_marker_subscripts.ensures (search begins depth 20) (c.in_err-footnote_marker_subscripts.ensures ◂ (c.in_ok-flags.ensures ⟩ c.fixed_byte-st.ensures ⟩ c.fixed_byte-st-2.ensures ⟩ c.in_ok-nested_row_labels.ensures ⟩ c.fixed_byte-st-3.ensures).reads)

pub returns-in_err-end : goal.returns-in_err-end
returns-in_err-end c = exit _ _ _ _ _ c.from_residual-in_err-end.ensures (search begins depth 20) (c.in_err-end.ensures.reads ◂ (c.in_ok-flags.ensures ⟩ c.fixed_byte-st.ensures ⟩ c.fixed_byte-st-2.ensures ⟩ c.in_ok-nested_row_labels.ensures ⟩ c.fixed_byte-st-3.ensures ⟩ c.in_ok-footnote_marker_subscripts.ensures ⟩ c.fixed_byte-st-4.ensures ⟩ c.int32_of-st.ensures).reads)

pub returns : goal.returns
returns c = c.in_ok-flags.ensures ⟩ c.fixed_byte-st.ensures ⟩ c.fixed_byte-st-2.ensures ⟩ c.in_ok-nested_row_labels.ensures ⟩ c.fixed_byte-st-3.ensures ⟩ c.in_ok-footnote_marker_subscripts.ensures ⟩ c.fixed_byte-st-4.ensures ⟩ c.int32_of-st.ensures ⟩ c.in_ok-end.ensures
