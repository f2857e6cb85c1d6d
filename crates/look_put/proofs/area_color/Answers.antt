use Rattle.store.specs.Laws.Puts.{◌⊳◌}
use Rattle.look_put.proofs.area_color.Goals as goal

pub returns : goal.returns
returns c =
    c.byte-st.ensures.fixed ⊳ c.byte-st-2.ensures.fixed ⊳ c.byte-st-3.ensures.fixed
    ⊳ c.color-st.ensures ⊳ c.color-st-2.ensures ⊳ c.small-st.ensures
    ⊳ c.byte.ensures.fixed
