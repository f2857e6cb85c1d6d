use Rattle.std.proofs.Common.{◌≡◌, ◌+◌, ◌-◌, ◌<◌, length, drop}
use Rattle.convert.specs.Convert.{output}
use Rattle.codepages.specs.Laws.Passes.{half, Writing}
use Rattle.codepages.proofs.write.Given as goal

abbrev pub invariant-loop-out : goal.invariant-loop-out
invariant-loop-out g l = (Writing (g.W.Way.step l.way) l.input l.initial.i l.initial.w l.initial.out l.out l.i l.w) × (length l.initial.out < half) × (l.end ≡ l.w + length (output (g.W.Way.step l.way) 0 (drop l.i l.input)))

abbrev pub decreases-loop-out : goal.decreases-loop-out
decreases-loop-out g l = length l.input - l.i

abbrev pub invariant-loop-i : goal.invariant-loop-i
invariant-loop-i g l = (Writing (g.W.Way.step l.way) l.input l.initial.i l.initial.w l.initial.out l.out l.i l.w) × (length l.initial.out < half)

abbrev pub decreases-loop-i : goal.decreases-loop-i
decreases-loop-i g l = length l.input - l.i
