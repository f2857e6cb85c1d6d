-- The line, or nothing where it may not fit.
use Rattle.std.proofs.lemmas.Bool.{le-leb, lt-leb}
use Rattle.report.specs.Laws.Puts.{printed, unprinted}
use Rattle.report.proofs.refusal.Goals as goal

pub returns-then-fits : goal.returns-then-fits
returns-then-fits c = printed (le-leb _ _ c.if-fits.true) c.refused.ensures

pub returns-else-fits : goal.returns-else-fits
returns-else-fits c = unprinted (lt-leb _ _ c.if-fits.false)
