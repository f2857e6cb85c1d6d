use Rattle.look_rules.proofs.Laws.Walk.{◌⟩◌, of_reads, past_reads}
use Rattle.look_rules.proofs.check.v2_styles.Goals as goal

pub returns : goal.returns
returns c =
    c.separators-st.ensures ⟩ of_reads (past_reads _ _ _ c.name.ensures c.past-st.ensures) ⟩ of_reads c.any-st.ensures.low
    ⟩ of_reads c.any-st-2.ensures.low ⟩ of_reads c.any-st-3.ensures.low ⟩ of_reads c.any.ensures.low
