use Rattle.store.specs.Laws.Puts.{◌⊳◌}
use Rattle.look_put.proofs.section.Goals as goal

pub returns : goal.returns
returns c =
    c.byte-st.ensures.fixed ⊳ c.byte-st-2.ensures.fixed ⊳ c.byte-st-3.ensures.fixed
    ⊳ c.byte-st-4.ensures.fixed ⊳ c.quoted.ensures
