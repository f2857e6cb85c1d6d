use Rattle.store.specs.Laws.Puts.{plain_none, plain_more}
use Rattle.sections_put.proofs.line.pair.Goals as goal

pub returns : goal.returns
returns c =
    plain_more {n = 1} c.border-st.ensures
    (plain_more {n = 0} c.border.ensures
    plain_none)
