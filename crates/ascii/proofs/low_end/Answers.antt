use native.Mathlib.Omega.{arith}
use Rattle.ascii.proofs.Parts.{before_more}
use Rattle.ascii.proofs.low_end.Goals as goal

pub loop-part-preserved : goal.loop-part-preserved
loop-part-preserved g c =
    let s = c.in-Some-split_at_checked.ensures.cases in
    let e = rw s.1 at c.joined.ensures in
    rw s.2 (before_more g.row.N s.0 (omega (arith, e)) c.loop-part.invariant)
