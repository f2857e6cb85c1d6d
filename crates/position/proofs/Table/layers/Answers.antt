use Rattle.std.proofs.Common.{arith}
use Rattle.position.proofs.Fronts.{part_slice}
use Rattle.position.proofs.Table.layers.Goals as goal

pub returns : goal.returns
returns c = let t = c.args.self.now in let w = t.whole in part_slice t.order.now 0 t.layers (omega arith)
