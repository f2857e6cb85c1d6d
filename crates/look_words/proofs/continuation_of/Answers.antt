use Rattle.look_words.specs.LookWords.{continuation}
use Rattle.look_words.proofs.continuation_of.Goals as goal

pub returns-in-Default : goal.returns-in-Default
unfolding continuation
returns-in-Default c = rw c.in-Default.is c.put.ensures

pub returns-in-Stored : goal.returns-in-Stored
unfolding continuation
returns-in-Stored c = rw c.in-Stored.is (rw (c.word.ensures, c.word-in-Stored.ensures) at c.put-in-Stored.ensures)
