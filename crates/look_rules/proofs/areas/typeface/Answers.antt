use Rattle.layout.specs.Steps.Chain.{◌◂◌}
use Rattle.look_rules.specs.StyleRule.{typeface_rule}
use Rattle.look_rules.proofs.Laws.Walk.{◌⟩◌, of_reads, past_reads}
use Rattle.look_rules.proofs.areas.typeface.Goals as goal

pub returns : goal.returns
unfolding typeface_rule
returns c =
    of_reads (c.any-st-2.ensures.low ◂ c.any-st.ensures.low ◂ c.boolean-st-3.ensures ◂ c.boolean-st-2.ensures ◂ c.boolean-st.ensures)
    ⟩ c.font_name-st.ensures ⟩ of_reads (past_reads _ _ _ c.color.ensures c.past-st.ensures) ⟩ of_reads c.zeros.ensures.reads
