use native.Mathlib.Omega.{arith}
use Rattle.nulls.proofs.NullBytes.{null_more, null_end}
use Rattle.nulls.proofs.any_null.Goals as goal

pub loop-b-preserved : goal.loop-b-preserved
loop-b-preserved c =
    let l = c.loop-b in
    null_more c.args.s.now l.b-index l.found (omega arith) l.invariant

pub returns : goal.returns
returns c = null_end c.args.s.now c.loop-b.b-index c.loop-b.found (omega arith) c.loop-b.invariant
