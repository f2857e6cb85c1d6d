-- A copy into the rest of the buffer is the text at that place.
use native.Mathlib.Omega.{arith}
use Rattle.report.proofs.Parts.{put_all}
use Rattle.report.proofs.text.put.Goals as goal

pub returns : goal.returns
returns c =
    let a = c.args in
    record {
      buffer = put_all a.out.now a.at a.s.now c.copy_from_slice.new.self (omega arith) c.copy_from_slice.ensures.after;
      next = omega arith;
      room = omega arith;
    }
