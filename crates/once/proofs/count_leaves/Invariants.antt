-- The loop keeps the number of leaves in all: n and those among the nodes that are left.
use Rattle.std.proofs.Common.{◌≡◌, ◌+◌, ◌-◌, ◌≤◌, length}
use Rattle.grammar.specs.RecordWords as spec
use Rattle.once.proofs.count_leaves.Given as goal

abbrev pub invariant-loop-i : goal.invariant-loop-i
invariant-loop-i l = (l.n + l.first ≤ l.i) × (l.n + length (spec.leaves l.nodes l.i (l.first + l.k - l.i)) ≡ length (spec.leaves l.nodes l.first l.k))
