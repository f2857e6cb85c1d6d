use Rattle.sections_put.specs.Fields.{fields}
use Rattle.store.specs.Laws.Puts.{plain, ◌⟫◌}
use Rattle.sections_put.proofs.sections.Goals as goal

pub returns : goal.returns
unfolding fields
returns c =
    c.areas-st.ensures
    ⟫ plain c.borders.ensures
