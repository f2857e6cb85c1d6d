use Rattle.store.specs.Laws.Puts.{plain, ◌⟫◌}
use Rattle.look_put.proofs.area.Goals as goal

pub returns : goal.returns
returns c =
    plain c.byte-st.ensures.fixed ⟫ plain c.byte-st-2.ensures.fixed
    ⟫ plain c.area_color-st.ensures ⟫ plain c.byte-st-3.ensures.fixed
    ⟫ plain c.byte-st-4.ensures.fixed ⟫ plain c.byte-st-5.ensures.fixed
    ⟫ c.area_style.ensures
