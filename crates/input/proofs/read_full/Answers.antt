use Rattle.std.proofs.Common.{rules}
use Rattle.input.proofs.Reading.{filled_on}
use Rattle.input.proofs.read_full.Goals as goal

pub loop-done-preserved : goal.loop-done-preserved
loop-done-preserved g c =
    let read = c.in_ok-n.ensures in
    (read.count, search rules, filled_on _ _ _ c.loop-done.buf c.read_after.new.buf c.loop-done.done c.in_ok-n.n c.read_after.ensures.front c.loop-done.invariant.2 read.bytes)
