use Rattle.grammar.specs.Sections.{AreaFont}
use Rattle.sections_put.specs.Fields.{font}
use Rattle.store.specs.Laws.Puts.{plain, ◌⟫◌}
use Rattle.sections_put.proofs.area.font.Goals as goal

pub returns : goal.returns
unfolding font AreaFont
returns c =
    plain c.byte-st.ensures.fixed
    ⟫ plain c.byte-st-2.ensures.fixed
    ⟫ c.typeface-st.ensures
    ⟫ plain c.int32-st.ensures.any
    ⟫ plain c.int32-st-2.ensures.any
    ⟫ plain c.flag-st.ensures
    ⟫ plain c.int32-st-3.ensures.any
    ⟫ plain c.int32.ensures.any
