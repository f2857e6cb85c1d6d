use Rattle.regions.proofs.Many.{many_of}
use Rattle.regions.proofs.production.counted.Goals as goal

pub returns : goal.returns
returns g c = many_of c.args.high c.times.ensures c.peek-n.ensures c.any.ensures.low c.any.ensures.high
