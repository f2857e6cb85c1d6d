use Rattle.look_rules.proofs.Laws.Walk.{checks}
use Rattle.look_rules.specs.StyleRule.{font_rule}
use Rattle.look_rules.proofs.areas.font.Goals as goal

pub returns : goal.returns
unfolding font_rule
returns c = search checks depth 20
