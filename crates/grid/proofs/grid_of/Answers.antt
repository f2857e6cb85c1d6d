use Rattle.std.proofs.Common.{arith}
use Rattle.grid.specs.Grid.{grid_of}
use Rattle.grid.proofs.grid_of.Goals as goal

pub returns : goal.returns
unfolding grid_of
returns c = (rw (c.min.ensures, c.places_from-2.ensures, c.places_from.ensures, c.peek.ensures), omega (arith, c.min.ensures))
