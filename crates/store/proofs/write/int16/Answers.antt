use Rattle.store.specs.Laws.Puts.{plain_any, plain_fixed}
use Rattle.store.proofs.write.int16.Goals as goal

pub returns : goal.returns
returns c = record { any = plain_any c.ranges.v.fits c.number.ensures; fixed = plain_fixed c.ranges.v.fits c.number.ensures }
