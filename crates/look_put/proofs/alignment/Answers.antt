use Rattle.store.specs.Laws.Puts.{◌⊳◌}
use Rattle.look_put.proofs.alignment.Goals as goal

pub returns : goal.returns
returns c =
    c.int16-st.ensures.any ⊳ c.int16-st-2.ensures.any ⊳ c.int16-st-3.ensures.any
    ⊳ c.int16-st-4.ensures.any ⊳ c.int16-st-5.ensures.any ⊳ c.int16-st-6.ensures.any
    ⊳ c.int16-st-7.ensures.any ⊳ c.byte-st.ensures.fixed ⊳ c.byte-st-2.ensures.fixed
    ⊳ c.byte-st-3.ensures.fixed ⊳ c.byte.ensures.fixed
