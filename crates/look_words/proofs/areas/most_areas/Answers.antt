use Rattle.look_words.specs.LookWords.{most_areas}
use Rattle.store.specs.Laws.Puts.{◌⟩◌}
use Rattle.look_words.proofs.areas.most_areas.Goals as goal

pub returns : goal.returns
unfolding most_areas
returns c =
    c.area-st.ensures ⟩ c.area-st-2.ensures ⟩ c.area-st-3.ensures
    ⟩ c.area-st-4.ensures ⟩ c.area-st-5.ensures ⟩ c.area-st-6.ensures
    ⟩ c.area.ensures
