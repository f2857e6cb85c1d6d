-- What the separators that are left give from here on, all of them give with those that were found.
use Rattle.look.proofs.Separators.{Found}
use Rattle.look.proofs.borders.separators.Given as goal

abbrev pub invariant-loop-x : goal.invariant-loop-x
invariant-loop-x g l = Found l.s g.row.N l.initial.at l.at l.x-items l.x-index
