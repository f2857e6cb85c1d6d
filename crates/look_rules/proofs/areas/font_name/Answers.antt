use Rattle.look_rules.specs.StyleRule.{name_rule}
use Rattle.look_rules.proofs.Laws.Walk.{string_asks}
use Rattle.look_rules.proofs.areas.font_name.Goals as goal

pub returns : goal.returns
unfolding name_rule
returns c = string_asks c.string.ensures
