use Rattle.store.specs.Laws.Puts.{plain, ◌⟫◌}
use Rattle.look.specs.Look.{PVText_style_name}
use Rattle.look_put.proofs.text_style.Goals as goal

pub returns : goal.returns
unfolding PVText_style_name
returns c = plain c.section-st.ensures ⟫ plain c.byte-st.ensures.fixed ⟫ c.area_style-st.ensures ⟫ c.most_areas.ensures
