use Rattle.store.specs.Laws.Puts.{◌⊳◌}
use Rattle.sections_put.proofs.line.border.Goals as goal

pub returns : goal.returns
returns c =
    c.be32-st.ensures
    ⊳ c.be32-st-2.ensures
    ⊳ c.be32.ensures
