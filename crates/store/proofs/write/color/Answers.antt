use Rattle.store.specs.Laws.Puts.{plain_number}
use Rattle.store.proofs.write.color.Goals as goal

pub returns : goal.returns
returns c = plain_number c.ranges.v.fits c.high_byte.ensures.code c.number.ensures
