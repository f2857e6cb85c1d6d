use Rattle.store.specs.Laws.Puts.{plain_none, plain_more}
use Rattle.look_put.proofs.frame.Goals as goal

pub returns : goal.returns
returns c =
    (plain_more {n = 3} c.separator-st.ensures
    (plain_more {n = 2} c.separator-st-2.ensures
    (plain_more {n = 1} c.separator-st-3.ensures
    (plain_more {n = 0} c.separator.ensures
    plain_none))))
