-- The loop keeps what was read, whether an index stands again or not; where it stops, the indexes read are tested.
use Rattle.cells.specs.Laws.Reading.{Reading}
use Rattle.cells.proofs.cell.all.Given as goal

abbrev pub invariant-loop-j : goal.invariant-loop-j
invariant-loop-j l = Reading l.member.version l.places l.member.bytes.now l.n l.at-2 l.initial.words l.j l.at l.words
