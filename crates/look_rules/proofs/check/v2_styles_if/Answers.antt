use Rattle.look_rules.proofs.Versions.{with_v2, without_v2}
use Rattle.look_rules.proofs.check.v2_styles_if.Goals as goal

pub returns-then-new : goal.returns-then-new
returns-then-new c = with_v2 _ c.if-new.true c.v2_styles.ensures

pub returns-else-new : goal.returns-else-new
returns-else-new c = without_v2 _ c.if-new.false
