use Rattle.look_rules.proofs.Laws.Walk.{checks}
use Rattle.look.specs.Look.{PVText_style_name}
use Rattle.look_rules.proofs.areas.text_style.Goals as goal

pub returns : goal.returns
unfolding PVText_style_name
returns c = search checks depth 20
