use Rattle.grammar.specs.Sections.{AreaMargins}
use Rattle.sections_put.specs.Fields.{margins}
use Rattle.store.specs.Laws.Puts.{◌⊳◌}
use Rattle.sections_put.proofs.area.margins.Goals as goal

pub returns : goal.returns
unfolding margins AreaMargins
returns c =
    c.int32-st.ensures.any
    ⊳ c.int32-st-2.ensures.any
    ⊳ c.int32-st-3.ensures.any
    ⊳ c.int32.ensures.any
