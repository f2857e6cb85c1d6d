use Rattle.look_rules.proofs.Laws.Walk.{checks}
use Rattle.look_rules.specs.StyleRule.{AreaStyleRule}
use Rattle.look_rules.proofs.areas.area_style.Goals as goal

pub returns : goal.returns
unfolding AreaStyleRule
returns c = search checks depth 20
