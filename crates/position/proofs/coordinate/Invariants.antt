-- The loop keeps the answer: the coordinate of what is left of the index, on the dimensions that are left.
use Rattle.std.proofs.Common.{◌≡◌, ◌+◌, ◌/◌, ◌≤◌, length}
use Rattle.sizes.specs.Sizes.{most_places}
use Rattle.grammar.specs.RecordWords.{word}
use Rattle.position.specs.Axes.{coordinate_on}
use Rattle.position.specs.Laws.Table.{down}
use Rattle.position.proofs.coordinate.Given as goal

abbrev pub invariant-loop-i : goal.invariant-loop-i
invariant-loop-i l = (l.step ≤ most_places + 1) × (coordinate_on (word l.ns) (down l.i) (l.k / l.step) l.e ≡ coordinate_on (word l.ns) (down (length l.ns)) l.k l.e)
