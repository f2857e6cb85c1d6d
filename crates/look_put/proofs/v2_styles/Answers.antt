use Rattle.store.specs.Laws.Puts.{plain, ◌⟫◌}
use Rattle.look_put.proofs.v2_styles.Goals as goal

pub returns : goal.returns
returns c =
    plain c.frames-st.ensures ⟫ c.continuation_of-st.ensures
    ⟫ plain c.int32-st.ensures.any ⟫ plain c.int32-st-2.ensures.any
    ⟫ plain c.int32-st-3.ensures.any ⟫ plain c.int32.ensures.any
