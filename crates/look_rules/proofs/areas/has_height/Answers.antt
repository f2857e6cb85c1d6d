use Rattle.std.proofs.lemmas.Bool.{le-leb, lt-leb}
use Rattle.sizes.specs.Basics.{pick}
use Rattle.look_rules.specs.StyleRule.{has_height}
use Rattle.look_rules.proofs.areas.has_height.Goals as goal

pub returns-then-bits-ge2147483648 : goal.returns-then-bits-ge2147483648
unfolding has_height pick
returns-then-bits-ge2147483648 c = rw (le-leb _ _ c.if-bits-ge2147483648.true, c.from.ensures)

pub returns-else-bits-ge2147483648 : goal.returns-else-bits-ge2147483648
unfolding has_height pick
returns-else-bits-ge2147483648 c = rw (lt-leb _ _ c.if-bits-ge2147483648.false)
