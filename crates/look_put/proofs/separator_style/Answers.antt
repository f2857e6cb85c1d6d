use Rattle.store.specs.Laws.Puts.{◌⊳◌}
use Rattle.look.specs.Look.{PVSeparator_style_name}
use Rattle.look_put.proofs.separator_style.Goals as goal

pub returns : goal.returns
unfolding PVSeparator_style_name
returns c =
    c.section-st.ensures ⊳ c.byte-st.ensures.fixed ⊳ c.lines-st.ensures ⊳ c.byte-st-2.ensures.fixed ⊳ c.byte-st-3.ensures.fixed
    ⊳ c.byte-st-4.ensures.fixed ⊳ c.lines.ensures
