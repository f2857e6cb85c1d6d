-- The loop keeps the answer: what is found among the nodes that are left, after the leaf indexes that are marked.
use Rattle.std.proofs.Common.{min, ◌+◌}
use Rattle.sizes.specs.Sizes.{most_nodes}
use Rattle.once.proofs.Marks.{Marking}
use Rattle.once.proofs.first_bad.Given as goal

abbrev pub invariant-loop-i : goal.invariant-loop-i
invariant-loop-i l = Marking l.nodes (min l.n most_nodes) l.first l.k l.marks l.i (l.first + l.k)
