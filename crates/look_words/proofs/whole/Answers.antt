use Rattle.look_words.specs.LookWords.{look_words_of}
use Rattle.store.specs.Laws.Puts.{◌⟩◌}
use Rattle.look_words.proofs.whole.Goals as goal

pub returns : goal.returns
unfolding look_words_of
returns c =
    c.put-st.ensures ⟩ c.lines-st.ensures ⟩ c.lines-st-2.ensures
    ⟩ c.area-st.ensures ⟩ c.most_areas-st.ensures ⟩ c.frames-st.ensures
    ⟩ c.v2_numbers.ensures
