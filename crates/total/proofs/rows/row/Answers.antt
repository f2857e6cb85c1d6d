use Rattle.total.specs.Laws.LeafRows.{sums_at}
use Rattle.total.proofs.rows.row.Goals as goal

pub returns : goal.returns
unfolding sums_at
returns c = rw (c.then_some.ensures, c.word.ensures, c.word-2.ensures, c.word-3.ensures, c.word-4.ensures, c.word-5.ensures, c.word-6.ensures, c.word-7.ensures, c.word-8.ensures, c.word-9.ensures)
