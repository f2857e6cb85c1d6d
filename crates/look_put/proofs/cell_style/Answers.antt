use Rattle.store.specs.Laws.Puts.{◌⊳◌}
use Rattle.look.specs.Look.{PVCell_style_name}
use Rattle.look_put.proofs.cell_style.Goals as goal

pub returns : goal.returns
unfolding PVCell_style_name
returns c = c.section-st.ensures ⊳ c.area_color.ensures
