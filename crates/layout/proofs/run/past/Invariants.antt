-- The loop keeps the end of the run: i and what the run has from there.
use Prim.Native.Nat.{◌+◌}
use mathlib.Core.Path.{◌≡◌}
use lib.ListN.{drop}
use Rattle.grammar.specs.Laws.Layout.Read.{lead}
use Rattle.layout.proofs.run.past.Given as goal

abbrev pub invariant-loop-k : goal.invariant-loop-k
invariant-loop-k l = l.i + lead l.b l.k (drop l.i l.s) ≡ l.at + lead l.b l.n (drop l.at l.s)

abbrev pub decreases-loop-k : goal.decreases-loop-k
decreases-loop-k l = l.k
