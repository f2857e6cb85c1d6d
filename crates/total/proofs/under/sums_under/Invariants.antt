-- The loop keeps the sums of the records from i on.
use mathlib.Core.Path.{◌≡◌}
use Prim.Native.Nat.{◌-◌}
use Rattle.total.specs.Total.{sums}
use Rattle.total.specs.Laws.Words.{under_by, records_say}
use Rattle.total.proofs.under.sums_under.Given as goal

abbrev pub invariant-loop-i : goal.invariant-loop-i
invariant-loop-i l = l.s ≡ sums (under_by l.block l.step l.leaf) (records_say l.member l.version l.words l.i (l.cells - l.i))
