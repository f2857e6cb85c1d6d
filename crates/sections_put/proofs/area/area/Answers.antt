use Rattle.sizes.specs.Basics.{pick}
use Rattle.grammar.specs.Sections as grammar
use Rattle.sections_put.specs.Fields.{area}
use Rattle.store.specs.Laws.Puts.{plain, ◌⟫◌}
use Rattle.sections_put.proofs.area.area.Goals as goal

pub returns : goal.returns
unfolding area grammar.Area pick
returns c =
    c.font-st.ensures
    ⟫ plain c.colors-st.ensures
    ⟫ plain c.margins.ensures
