-- The loop keeps marks of the entries passed, the last first, which stand once each.
use Rattle.std.proofs.Common.{◌≡◌, true, length, drop}
use Rattle.sizes.specs.Sizes.{most_dimensions}
use Rattle.once.specs.Laws.Marks.{Marks}
use Rattle.position.specs.Answers.{each_axis_once}
use Rattle.position.proofs.permutes.Given as goal

abbrev pub invariant-loop-i : goal.invariant-loop-i
invariant-loop-i l = Marks most_dimensions l.marks (drop l.i l.order) × (each_axis_once (length l.order) (drop l.i l.order) ≡ true)
