use Rattle.look_words.specs.LookWords.{v2_numbers}
use Rattle.store.specs.Laws.Puts.{◌⟩◌}
use Rattle.look_words.proofs.v2_numbers.Goals as goal

pub returns : goal.returns
unfolding v2_numbers
returns c = c.continuation_of-st.ensures ⟩ c.put.ensures
