use Rattle.std.proofs.lemmas.Bool.{le-ltb, lt-ltb}
use Rattle.grid.specs.Grid.{there_of}
use Rattle.grid.proofs.is_there.Goals as goal

pub returns-then-dimension-d : goal.returns-then-dimension-d
unfolding there_of
returns-then-dimension-d c = rw (lt-ltb _ _ c.if-dimension-d.true, c.word.ensures)

pub returns-else-dimension-d : goal.returns-else-dimension-d
unfolding there_of
returns-else-dimension-d c = rw (le-ltb _ _ c.if-dimension-d.false)
