use mathlib.Core.Path.{refl}
use Rattle.sizes.specs.Basics.{pick, le}
use Rattle.grammar.specs.Layout.{digits}
use Rattle.grammar.specs.Sections.{Areas}
use Rattle.store.specs.Put.{run_verdict}
use Rattle.sections_put.specs.Fields.{areas}
use Rattle.sections_put.specs.Laws.Long.{leads}
use Rattle.sections_put.specs.Laws.Puts.{leading_puts}
use Rattle.sections_put.proofs.area.areas.Goals as goal

pub returns : goal.returns
unfolding areas Areas digits le run_verdict pick
returns c =
    let a = c.args in
    leading_puts {k = 0} {c = 0} (leads a.names.now a.x) refl c.number-st.ensures c.eight_areas.ensures
