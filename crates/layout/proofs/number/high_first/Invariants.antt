-- `layout::number::high_first` meets its contract. The loop's invariant: v is the number that the first i bytes spell.
use Prim.Native.Nat.{◌≤◌, ◌<◌, ◌-◌, ◌^◌}
use mathlib.Core.Path.{◌≡◌}
use lib.ListN.{take, drop}
use Rattle.grammar.specs.Layout.{big, undigits}
use Rattle.layout.proofs.number.high_first.Given as goal

abbrev pub invariant-loop-i : goal.invariant-loop-i
invariant-loop-i l = (l.i ≤ l.w) × (l.v < 256 ^ l.i) × (l.v ≡ undigits big (take l.i (drop l.at l.s)))

abbrev pub decreases-loop-i : goal.decreases-loop-i
decreases-loop-i l = l.w - l.i
