use Rattle.store.specs.Laws.Puts.{plain_none, plain_more, ◌and◌}
use Rattle.look_put.proofs.frames.Goals as goal

pub returns : goal.returns
returns c =
    plain_more {n = 10} c.separator-st.ensures
    (c.frame-st.ensures and c.frame-st-2.ensures and (plain_more {n = 1} c.separator-st-2.ensures (plain_more {n = 0} c.separator.ensures plain_none)))
