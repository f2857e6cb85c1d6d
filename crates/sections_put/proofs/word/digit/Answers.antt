use Rattle.std.proofs.lemmas.Bool.{lt-ltb, le-ltb}
use Rattle.sizes.specs.Basics.{pick}
use Rattle.sections_put.specs.Fields.{digit}
use Rattle.sections_put.proofs.word.digit.Goals as goal

pub returns-then-d-lt10 : goal.returns-then-d-lt10
unfolding digit pick
returns-then-d-lt10 c = rw (lt-ltb _ _ c.if-d-lt10.true)

pub returns-else-d-lt10 : goal.returns-else-d-lt10
unfolding digit pick
returns-else-d-lt10 c = rw (le-ltb _ _ c.if-d-lt10.false)
