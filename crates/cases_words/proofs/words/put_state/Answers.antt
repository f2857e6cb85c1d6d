use Rattle.store.specs.Laws.Puts.{◌⟩◌, long_words}
use Rattle.cases_words.specs.StateWords.{head_words, state_words_of}
use Rattle.cases_words.proofs.words.put_state.Goals as goal

pub shape_of-out : goal.shape_of-out
unfolding state_words_of head_words
shape_of-out c = long_words (c.put-st.ensures ⟩ c.put.ensures)

pub returns : goal.returns
unfolding state_words_of head_words
returns c = (rw (c.low.ensures, c.low-2.ensures, c.low-3.ensures, c.low-4.ensures) at c.put-st.ensures) ⟩ rw c.widened.ensures at c.put.ensures
