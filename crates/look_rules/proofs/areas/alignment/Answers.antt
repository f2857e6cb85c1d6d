use Rattle.look_rules.specs.StyleRule.{alignment_rule}
use Rattle.look_rules.proofs.Laws.Walk.{◌⟩◌, of_reads}
use Rattle.look_rules.proofs.areas.alignment.Goals as goal

pub returns : goal.returns
unfolding alignment_rule
returns c =
    c.aligned-st.ensures ⟩ c.aligned-st-2.ensures ⟩ of_reads c.any-st.ensures.low ⟩ of_reads c.any-st-2.ensures.low
    ⟩ of_reads c.any-st-3.ensures.low ⟩ of_reads c.any-st-4.ensures.low ⟩ of_reads c.any-st-5.ensures.low
    ⟩ of_reads c.fixed_byte-st.ensures.reads ⟩ of_reads c.fixed_byte-st-2.ensures.reads ⟩ of_reads c.fixed_byte-st-3.ensures.reads ⟩ of_reads c.fixed_byte.ensures.reads
