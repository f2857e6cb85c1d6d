use Rattle.grammar.specs.Sections.{AreaColors}
use Rattle.sections_put.specs.Fields.{colors}
use Rattle.store.specs.Laws.Puts.{◌⊳◌}
use Rattle.sections_put.proofs.area.colors.Goals as goal

pub returns : goal.returns
unfolding colors AreaColors
returns c =
    c.color-st.ensures
    ⊳ c.color-st-2.ensures
    ⊳ c.flag-st.ensures
    ⊳ c.empty-st.ensures
    ⊳ c.empty.ensures
