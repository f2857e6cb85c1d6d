use Rattle.std.proofs.lemmas.Bool.{le-leb, lt-leb}
use Rattle.sizes.specs.Basics.{pick}
use Rattle.desk.proofs.place.inside.Goals as goal

pub returns-then-fits : goal.returns-then-fits
unfolding pick
returns-then-fits c = rw (le-leb _ _ c.if-fits.true)

pub returns-else-fits : goal.returns-else-fits
unfolding pick
returns-else-fits c = rw (lt-leb _ _ c.if-fits.false)
