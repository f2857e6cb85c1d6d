use Rattle.std.proofs.Common.{◌≡◌, length}
use Rattle.table.specs.Laws.Dims.{Passing}
use Rattle.table.proofs.dimension.all.Given as goal

abbrev pub invariant-loop-i : goal.invariant-loop-i
invariant-loop-i l = (length l.nodes ≡ length l.initial.nodes) × Passing l.member.version l.member.bytes.now l.n l.at l.initial.nodes l.initial.dims l.i l.reached.0 l.reached.1.0 l.nodes l.dims
