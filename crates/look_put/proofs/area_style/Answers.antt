use Rattle.store.specs.Laws.Puts.{plain, ◌⟫◌}
use Rattle.look_put.proofs.area_style.Goals as goal

pub returns : goal.returns
returns c =
    plain c.alignment-st.ensures ⟫ plain c.font-st.ensures
    ⟫ c.typeface.ensures
