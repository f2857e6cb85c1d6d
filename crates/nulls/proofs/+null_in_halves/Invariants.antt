-- Halves are shorter: the measure is the length.
use lib.ListN.{length}
use Rattle.nulls.proofs.+null_in_halves.Given as goal

abbrev pub decreases-null_in_halves : goal.decreases-null_in_halves
decreases-null_in_halves l = length l.s.now
