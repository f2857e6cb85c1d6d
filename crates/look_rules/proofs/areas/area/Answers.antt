use Rattle.layout.specs.Steps.Chain.{◌◂◌}
use Rattle.look_rules.specs.StyleRule.{MostAreasRule}
use Rattle.look_rules.proofs.Laws.Walk.{◌⟩◌, of_reads, past_reads}
use Rattle.look_rules.proofs.areas.area.Goals as goal

pub returns : goal.returns
unfolding MostAreasRule
returns c =
    of_reads
    (c.fixed_byte-st-5.ensures.reads ◂ c.fixed_byte-st-4.ensures.reads ◂ c.fixed_byte-st-3.ensures.reads
    ◂ past_reads _ _ _ c.area_color.ensures c.past-st.ensures ◂ c.fixed_byte-st-2.ensures.reads ◂ c.fixed_byte-st.ensures.reads)
    ⟩ c.area_style.ensures
