use Rattle.store.specs.Laws.Puts.{◌⊳◌}
use Rattle.look_put.proofs.settings.Goals as goal

pub returns : goal.returns
returns c =
    c.int16-st.ensures.any ⊳ c.byte-st.ensures.fixed ⊳ c.byte-st-2.ensures.fixed
    ⊳ c.flag-st.ensures ⊳ c.byte-st-3.ensures.fixed ⊳ c.flag-st-2.ensures
    ⊳ c.byte-st-4.ensures.fixed ⊳ c.int32-st.ensures.fixed
    ⊳ c.int32.ensures.fixed
