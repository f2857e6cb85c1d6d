use Rattle.store.specs.Laws.Puts.{◌⊳◌}
use Rattle.look_put.proofs.quoted.Goals as goal

pub returns : goal.returns
returns c = c.int16-st.ensures.fixed ⊳ c.plain_letters.ensures
