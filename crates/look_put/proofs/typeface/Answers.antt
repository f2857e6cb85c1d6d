use Rattle.store.specs.Laws.Puts.{plain, ◌⟫◌}
use Rattle.look_put.proofs.typeface.Goals as goal

pub returns : goal.returns
returns c =
    plain c.flag-st.ensures ⟫ plain c.flag-st-2.ensures
    ⟫ plain c.flag-st-3.ensures ⟫ plain c.int32-st.ensures.any
    ⟫ plain c.byte-st.ensures.any ⟫ c.name-st.ensures
    ⟫ plain c.color-st.ensures ⟫ plain c.zeros.ensures
