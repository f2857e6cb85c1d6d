use Rattle.look.specs.Look.{PVCell_style_name, AreaColor}
use Rattle.look.specs.Values.{area_color}
use Rattle.fields.specs.Laws.Exits.{after}
use Rattle.look.proofs.areas.cell_style.Goals as goal

pub returns : goal.returns
unfolding PVCell_style_name
returns c = after AreaColor _ _ area_color _ c.section.ensures c.area_color.ensures
