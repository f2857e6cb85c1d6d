use Rattle.store.specs.Laws.Puts.{plain_number}
use Rattle.store.proofs.write.small.Goals as goal

pub returns : goal.returns
returns c = plain_number c.ranges.v.fits c.limit.ensures.code c.number.ensures
