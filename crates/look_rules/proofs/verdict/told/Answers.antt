use Rattle.sizes.specs.Basics.{pick}
use Rattle.layout.specs.Reads.{chain}
use Rattle.look_rules.specs.Checks.{told}
use Rattle.look_rules.proofs.verdict.told.Goals as goal

pub returns-then-good : goal.returns-then-good
unfolding told chain pick
returns-then-good c = rw c.if-good.true

pub returns-else-good : goal.returns-else-good
unfolding told chain pick
returns-else-good c = rw c.if-good.false
