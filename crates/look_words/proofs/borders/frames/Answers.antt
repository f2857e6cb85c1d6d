use Rattle.look_words.specs.LookWords.{frames}
use Rattle.store.specs.Laws.Puts.{◌⟩◌}
use Rattle.look_words.proofs.borders.frames.Goals as goal

pub returns : goal.returns
unfolding frames
returns c =
    c.separator-st.ensures ⟩ c.frame-st.ensures ⟩ c.frame-st-2.ensures
    ⟩ c.separator-st-2.ensures ⟩ c.separator.ensures
