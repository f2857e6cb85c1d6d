-- What comes before the nodes, the nodes and the cells, one after the other; nothing where they may not fit.
use Rattle.std.proofs.lemmas.Bool.{le-leb, lt-leb}
use native.Mathlib.Omega.{arith}
use Rattle.report.specs.Laws.Puts.{◌▹◌, printed, unprinted}
use Rattle.report.proofs.records.Goals as goal

pub shape-at-requires : goal.shape-at-requires
shape-at-requires c = omega (arith, c.needed.ensures)

pub table-at-requires : goal.table-at-requires
table-at-requires c = omega (arith, c.needed.ensures, c.shape-at.ensures.upper_bound)

pub table-requires : goal.table-requires
table-requires c = omega (arith, c.needed.ensures, c.shape-at.ensures.upper_bound, c.table-at.ensures.upper_bound)

pub returns-then-fits : goal.returns-then-fits
returns-then-fits c =
    printed (rw c.needed.ensures at (le-leb _ _ c.if-fits.true))
    (c.shape-at.ensures.puts ▹ c.table-at.ensures.puts ▹ c.table.ensures.puts)

pub returns-else-fits : goal.returns-else-fits
returns-else-fits c = unprinted (rw c.needed.ensures at (lt-leb _ _ c.if-fits.false))
