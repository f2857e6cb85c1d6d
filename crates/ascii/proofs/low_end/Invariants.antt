use Rattle.std.proofs.Common.{length}
use Rattle.ascii.proofs.Parts.{RunBefore}
use Rattle.ascii.proofs.low_end.Given as goal

abbrev pub invariant-loop-part : goal.invariant-loop-part
invariant-loop-part g l = RunBefore l.input l.fn.start l.rest

abbrev pub decreases-loop-part : goal.decreases-loop-part
decreases-loop-part g l = length l.rest
