use Rattle.std.proofs.Common.{◌≡◌, ◌+◌, ◌-◌, arith}
use Rattle.position.proofs.Fronts.{part_slice}
use Rattle.position.proofs.Table.rows.Goals as goal

pub returns : goal.returns
returns c =
    let t = c.args.self.now in
    let w = t.whole in
    let z : t.layers + t.rows - t.layers ≡ t.rows = omega arith in
    rw z (part_slice t.order.now t.layers t.rows (omega arith))
