use Rattle.store.specs.Laws.Puts.{plain_more}
use Rattle.store.specs.Laws.Puts.{◌and◌}
use Rattle.sections_put.proofs.line.lines.Goals as goal

pub returns : goal.returns
returns c =
    plain_more {n = 18} c.border-st.ensures
    (c.frame-st.ensures and c.frame-st-2.ensures
    and plain_more {n = 9} c.border-st-2.ensures
    (plain_more {n = 8} c.border-st-3.ensures
    (c.pair-st.ensures and c.pair-st-2.ensures
    and c.pair-st-3.ensures and c.pair.ensures)))
