use Rattle.store.specs.Laws.Puts.{◌⟩◌}
use Rattle.value_words.specs.Values.{value_words}
use Rattle.value_words.proofs.value_words.Goals as goal

pub returns-in-Ok : goal.returns-in-Ok
unfolding value_words
returns-in-Ok c = rw (c.in-Ok.is, ← c.low.ensures, ← c.low-in-Ok.ensures) (c.put-st.ensures ⟩ c.raw_words.ensures)

pub returns-in-Err : goal.returns-in-Err
unfolding value_words
returns-in-Err c = rw (c.in-Err.is, ← c.number.ensures, ← c.low-in-Err.ensures) c.put.ensures
