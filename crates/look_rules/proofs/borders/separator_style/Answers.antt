use Rattle.layout.specs.Steps.Chain.{◌◂◌}
use Rattle.look.specs.Look.{PVSeparator_style_name}
use Rattle.look_rules.proofs.Laws.Walk.{◌⟩◌, of_reads}
use Rattle.look_rules.proofs.borders.separator_style.Goals as goal

pub returns : goal.returns
unfolding PVSeparator_style_name
returns c =
    of_reads (c.fixed_byte-st.ensures.reads ◂ c.section-st.ensures.reads) ⟩ c.separators-st.ensures
    ⟩ of_reads c.fixed_byte-st-2.ensures.reads ⟩ of_reads c.fixed_byte-st-3.ensures.reads ⟩ of_reads c.fixed_byte-st-4.ensures.reads
    ⟩ c.separators.ensures
