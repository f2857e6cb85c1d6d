use Rattle.look_words.specs.LookWords.{area}
use Rattle.store.specs.Laws.Puts.{◌⟩◌}
use Rattle.look_words.proofs.areas.area.Goals as goal

pub returns : goal.returns
unfolding area
returns c =
    c.area_color-st.ensures ⟩ c.alignment-st.ensures ⟩ c.font-st.ensures
    ⟩ c.typeface.ensures
