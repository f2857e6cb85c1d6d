use Rattle.total.specs.Laws.Words.{under_by}
use Rattle.total.proofs.under.is_under.Goals as goal

pub returns : goal.returns
unfolding under_by
returns c = rw (c.coordinate.ensures, c.from.ensures)
