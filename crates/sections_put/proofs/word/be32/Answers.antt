use Rattle.store.specs.Laws.Puts.{plain_any}
use Rattle.sections_put.proofs.word.be32.Goals as goal

pub returns : goal.returns
returns c = plain_any c.ranges.v.fits c.number.ensures
