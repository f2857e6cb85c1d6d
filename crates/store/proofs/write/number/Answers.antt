use Rattle.std.proofs.Common.{◌∙◌, arith}
use Rattle.store.proofs.Parts.{le_bytes_are, be_bytes_are, low_bytes, high_bytes}
use Rattle.store.proofs.write.number.Goals as goal

pub returns-then-high : goal.returns-then-high
returns-then-high c =
    let n = c.width-w in
    let v = c.args.v in
    let bytes = c.to_be_bytes.ensures ∙ be_bytes_are v in
    rw (c.if-high.true, ← n.ensures, ← (high_bytes n.result v (omega (arith, n.ensures)))) (rw bytes at c.raw.ensures)

pub returns-else-high : goal.returns-else-high
returns-else-high c =
    let n = c.width-w in
    let v = c.args.v in
    let bytes = c.to_le_bytes.ensures ∙ le_bytes_are v in
    rw (c.if-high.false, ← n.ensures, ← (low_bytes n.result v (omega (arith, n.ensures)))) (rw bytes at c.raw-else-high.ensures)
