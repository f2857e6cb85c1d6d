-- The loop keeps the number of leaves in all, and the answer: what is found among the nodes that are left, after the leaf indexes below the
-- next.
use Rattle.std.proofs.Common.{◌≡◌, ◌+◌, ◌-◌, ◌≤◌, min, length}
use Rattle.sizes.specs.Sizes.{most_nodes}
use Rattle.grammar.specs.RecordWords as spec
use Rattle.once.proofs.Ordered.{Ordered}
use Rattle.once.proofs.in_order.Given as goal

abbrev pub invariant-loop-i : goal.invariant-loop-i
invariant-loop-i l =
    (l.next + l.first ≤ l.i)
    × (l.next + length (spec.leaves l.nodes l.i (l.first + l.k - l.i)) ≡ length (spec.leaves l.nodes l.first l.k))
    × Ordered l.nodes (min (length (spec.leaves l.nodes l.first l.k)) most_nodes) l.first l.k l.next l.i (l.first + l.k)
