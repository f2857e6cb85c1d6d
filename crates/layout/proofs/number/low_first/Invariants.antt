-- `layout::number::low_first` meets its contract. The loop's invariant: v is the number that the bytes from i on spell.
use Prim.Native.Nat.{◌≤◌, ◌<◌, ◌+◌, ◌-◌, ◌^◌}
use mathlib.Core.Path.{◌≡◌}
use lib.ListN.{take, drop}
use Rattle.grammar.specs.Layout.{little, undigits}
use Rattle.layout.proofs.number.low_first.Given as goal

abbrev pub invariant-loop-i : goal.invariant-loop-i
invariant-loop-i l = (l.i ≤ l.w) × (l.v < 256 ^ (l.w - l.i)) × (l.v ≡ undigits little (take (l.w - l.i) (drop (l.at + l.i) l.s)))

abbrev pub decreases-loop-i : goal.decreases-loop-i
decreases-loop-i l = l.i
