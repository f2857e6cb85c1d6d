use lib.Dec.{eqb}
use Rattle.grammar.specs.Rule.{plain}
use Rattle.layout.specs.Steps.Numbers.{tested_of}
use Rattle.look.specs.Look.{PTTable_look_name, settings}
use Rattle.look_rules.specs.StyleRule.{◌▹◌, V2StylesIfRule, sections_rule, style_rule}
use Rattle.look_rules.proofs.Laws.Walk.{◌⟩◌, of_reads, past_reads, switch_of}
use Rattle.look_rules.proofs.check.table_look.Goals as goal

pub returns : goal.returns
unfolding PTTable_look_name style_rule
returns c =
    of_reads c.section-st.ensures.reads
    ⟩ switch_of (λ version. plain settings ▹ sections_rule (V2StylesIfRule (eqb version 2))) c.peek-v.ensures
    (tested_of c.field-st.ensures c.known_two.ensures.code c.peek-v.ensures)
    (of_reads (past_reads _ _ _ c.settings.ensures c.past-st.ensures) ⟩ c.sections.ensures)
