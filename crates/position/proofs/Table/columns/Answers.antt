use Rattle.std.proofs.Common.{◌≡◌, ◌+◌, ◌-◌, length, arith}
use Rattle.position.proofs.Fronts.{part_slice}
use Rattle.position.proofs.Table.columns.Goals as goal

pub returns : goal.returns
returns c =
    let t = c.args.self.now in
    let w = t.whole in
    let z : length t.order.now - (t.layers + t.rows) ≡ t.columns = omega arith in
    rw z (part_slice t.order.now (t.layers + t.rows) t.columns (omega arith))
