use Rattle.grammar.specs.Sections.{EightAreas}
use Rattle.sections_put.specs.Fields.{eight_areas}
use Rattle.store.specs.Laws.Puts.{◌⟫◌}
use Rattle.sections_put.proofs.area.eight_areas.Goals as goal

pub returns : goal.returns
unfolding eight_areas EightAreas
returns c =
    c.area-st.ensures
    ⟫ c.area-st-2.ensures
    ⟫ c.area-st-3.ensures
    ⟫ c.area-st-4.ensures
    ⟫ c.area-st-5.ensures
    ⟫ c.area-st-6.ensures
    ⟫ c.area-st-7.ensures
    ⟫ c.area.ensures
