use Rattle.layout.specs.Steps.Chain.{◌◂◌}
use Rattle.layout.specs.Steps.Numbers.{tested_of}
use Rattle.fields.specs.Laws.Gives.{◌⟩◌}
use Rattle.look.specs.Look.{PTTable_look_name}
use Rattle.fields.specs.Laws.Exits.{whole, more, early, exit_shows}
use Rattle.look.proofs.Versions.{look_shows, look_refused}
use Rattle.look.proofs.read.table_look.Goals as goal

pub returns-in_err-settings : goal.returns-in_err-settings
unfolding PTTable_look_name
returns-in_err-settings c =
    exit_shows _ _ _ _ _ _ c.from_residual.ensures whole
    (look_refused c.peek-v.result c.section-st.ensures c.peek-v.ensures (tested_of c.field-st.ensures c.known_two.ensures.code c.peek-v.ensures)
    (early (more whole) c.in_err-settings.ensures))

pub returns-in_err-rows : goal.returns-in_err-rows
unfolding PTTable_look_name
returns-in_err-rows c =
    exit_shows _ _ _ _ _ _ c.from_residual-in_err-rows.ensures whole
    (look_refused c.peek-v.result c.section-st.ensures c.peek-v.ensures (tested_of c.field-st.ensures c.known_two.ensures.code c.peek-v.ensures)
    (early (more (more (more whole))) c.in_err-rows.ensures ◂ c.in_ok-settings.ensures.reads))

pub returns-in_err-color : goal.returns-in_err-color
unfolding PTTable_look_name
returns-in_err-color c =
    exit_shows _ _ _ _ _ _ c.from_residual-in_err-color.ensures whole
    (look_refused c.peek-v.result c.section-st.ensures c.peek-v.ensures (tested_of c.field-st.ensures c.known_two.ensures.code c.peek-v.ensures)
    (early (more (more whole)) (c.in_err-color.ensures ◂ c.in_ok-rows.ensures.reads) ◂ c.in_ok-settings.ensures.reads))

pub returns-in_err-style : goal.returns-in_err-style
unfolding PTTable_look_name
returns-in_err-style c =
    exit_shows _ _ _ _ _ _ c.from_residual-in_err-style.ensures whole
    (look_refused c.peek-v.result c.section-st.ensures c.peek-v.ensures (tested_of c.field-st.ensures c.known_two.ensures.code c.peek-v.ensures)
    (early (more whole) (c.in_err-style.ensures ◂ (c.in_ok-rows.ensures ⟩ c.in_ok-color.ensures).reads) ◂ c.in_ok-settings.ensures.reads))

pub returns-in_err-v2 : goal.returns-in_err-v2
unfolding PTTable_look_name
returns-in_err-v2 c =
    exit_shows _ _ _ _ _ _ c.from_residual-in_err-v2.ensures whole
    (look_refused c.peek-v.result c.section-st.ensures c.peek-v.ensures (tested_of c.field-st.ensures c.known_two.ensures.code c.peek-v.ensures)
    ((c.in_err-v2.ensures ◂ (c.in_ok-rows.ensures ⟩ c.in_ok-color.ensures ⟩ c.in_ok-style.ensures).reads) ◂ c.in_ok-settings.ensures.reads))

pub returns : goal.returns
unfolding PTTable_look_name
returns c =
    look_shows c.peek-v.result c.section-st.ensures c.peek-v.ensures (tested_of c.field-st.ensures c.known_two.ensures.code c.peek-v.ensures)
    c.in_ok-settings.ensures (c.in_ok-rows.ensures ⟩ c.in_ok-color.ensures ⟩ c.in_ok-style.ensures) c.in_ok-v2.ensures
