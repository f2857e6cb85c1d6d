use Rattle.store.specs.Laws.Puts.{plain_none, plain_more}
use Rattle.sections_put.proofs.line.frame.Goals as goal

pub returns : goal.returns
returns c =
    plain_more {n = 3} c.border-st.ensures
    (plain_more {n = 2} c.border-st-2.ensures
    (plain_more {n = 1} c.border-st-3.ensures
    (plain_more {n = 0} c.border.ensures
    plain_none)))
