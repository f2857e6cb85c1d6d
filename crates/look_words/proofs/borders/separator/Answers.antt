use Rattle.look_words.specs.LookWords.{separator}
use Rattle.look_words.proofs.borders.separator.Goals as goal

pub returns-in-NotDrawn : goal.returns-in-NotDrawn
unfolding separator
returns-in-NotDrawn c = rw c.in-NotDrawn.is c.put.ensures

pub returns-in-Drawn : goal.returns-in-Drawn
unfolding separator
returns-in-Drawn c = rw c.in-Drawn.is c.put-in-Drawn.ensures
