use native.Mathlib.Omega.{arith}
use Rattle.grammar.specs.Layout.{◌▸◌}
use Rattle.store.specs.Laws.Puts.{plain, ◌⟫◌, switch_puts}
use Rattle.look.specs.Look as grammar
use Rattle.look.specs.Look.{PTTable_look_name}
use Rattle.look_put.proofs.table_look.Goals as goal

pub returns : goal.returns
unfolding PTTable_look_name
returns c =
    plain c.section-st.ensures
    ⟫ switch_puts (λ version. grammar.settings ▸ grammar.sections grammar.V2Styles) (omega arith) c.known_one.ensures.code c.number-st.ensures
    (plain c.settings-st.ensures
    ⟫ (plain c.separator_style-st.ensures ⟫ plain c.cell_style-st.ensures ⟫ c.text_style-st.ensures ⟫ c.v2_styles.ensures))
