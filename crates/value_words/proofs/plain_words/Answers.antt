use Rattle.value_words.specs.Values.{value_words}
use Rattle.value_words.proofs.plain_words.Goals as goal

pub returns : goal.returns
unfolding value_words
returns c = rw (← c.plain_format-format.ensures, ← c.plain_bits-bits.ensures) c.put.ensures
