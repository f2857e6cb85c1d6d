-- The loop keeps the position on the dimensions passed, the last first.
use Rattle.std.proofs.Common.{◌≡◌, length, drop}
use Rattle.grammar.specs.RecordWords.{word}
use Rattle.position.specs.Axes.{position_on, coordinate_on}
use Rattle.position.specs.Laws.Table.{down}
use Rattle.position.proofs.along.Given as goal

abbrev pub invariant-loop-i : goal.invariant-loop-i
invariant-loop-i l = l.p ≡ position_on (word l.ns) (coordinate_on (word l.ns) (down (length l.ns)) l.k) (drop l.i l.axis)
