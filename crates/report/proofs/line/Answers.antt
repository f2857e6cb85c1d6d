-- The line by the refusal number; nothing where it may not fit.
use Rattle.std.proofs.Common.{eq-eqb, ne_eqb}
use Rattle.std.proofs.lemmas.Bool.{le-leb, lt-leb}
use Rattle.report.specs.Laws.Puts.{printed, unprinted}
use Rattle.report.proofs.line.Goals as goal

pub returns-then-fits : goal.returns-then-fits
returns-then-fits c = rw (eq-eqb _ _ c.if-ok.true) (printed (le-leb _ _ c.if-fits.true) c.accepted.ensures)

pub returns-else-fits : goal.returns-else-fits
returns-else-fits c = rw (eq-eqb _ _ c.if-ok.true) (unprinted (lt-leb _ _ c.if-fits.false))

pub returns-else-ok : goal.returns-else-ok
returns-else-ok c = rw (ne_eqb _ _ c.if-ok.false) c.refusal.ensures
