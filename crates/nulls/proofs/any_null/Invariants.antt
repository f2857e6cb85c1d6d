-- The loop keeps whether a 0 was found: that, or that one stands from the next byte on, is that one stands among them.
use Rattle.nulls.proofs.NullBytes.{NullFrom}
use Rattle.nulls.proofs.any_null.Given as goal

abbrev pub invariant-loop-b : goal.invariant-loop-b
invariant-loop-b l = NullFrom l.s l.b-index l.found
