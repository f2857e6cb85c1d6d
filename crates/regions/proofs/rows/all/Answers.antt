use Rattle.layout.specs.Steps.Rows.{rows_all, rows_some}
use Rattle.regions.proofs.rows.all.Goals as goal

pub returns-then-k-n : goal.returns-then-k-n
returns-then-k-n g c = rows_all c.size-size.ensures c.fitting-k.ensures c.rows-at.ensures c.if-k-n.true

pub returns-else-k-n : goal.returns-else-k-n
returns-else-k-n g c = rows_some c.size-size.ensures c.fitting-k.ensures c.rows-at.ensures c.if-k-n.false c.read.ensures
