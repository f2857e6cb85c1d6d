use Rattle.look_rules.proofs.Laws.Walk.{checks, past_reads}
use Rattle.look_rules.proofs.check.sections.Goals as goal

pub returns : goal.returns
returns c =
    let color = past_reads _ _ _ c.cell_style.ensures c.past-st.ensures in
    search (checks, color) depth 20
