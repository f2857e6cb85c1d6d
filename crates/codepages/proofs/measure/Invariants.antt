use Rattle.std.proofs.Common.{◌-◌, ◌<◌, length}
use Rattle.codepages.specs.Laws.Passes.{half, Tally}
use Rattle.codepages.proofs.measure.Given as goal

abbrev pub invariant-loop-i : goal.invariant-loop-i
invariant-loop-i g l = (Tally (g.W.Way.step l.way) l.input l.room l.i l.n) × (length l.input < half)

abbrev pub decreases-loop-i : goal.decreases-loop-i
decreases-loop-i g l = length l.input - l.i
