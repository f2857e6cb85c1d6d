use Rattle.store.specs.Laws.Puts.{◌⟩◌}
use Rattle.total.proofs.answers.answer_words.Goals as goal

pub returns : goal.returns
returns c = c.put-st.ensures ⟩ c.sum_words.ensures
