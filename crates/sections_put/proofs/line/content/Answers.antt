use mathlib.Core.Path.{refl}
use native.Mathlib.Omega.{arith}
use Rattle.sizes.specs.Basics.{pick}
use Rattle.grammar.specs.Layout.{passes, times}
use Rattle.grammar.specs.Sections as grammar
use Rattle.grammar.specs.Sections.{BordersContent}
use Rattle.layout.specs.Reads.{verdict}
use Rattle.store.specs.Laws.Puts.{◌⊳◌, plain_fixed, plain_switch}
use Rattle.sections_put.specs.Fields.{content}
use Rattle.sections_put.proofs.line.content.Goals as goal

pub returns : goal.returns
unfolding content BordersContent verdict passes pick
returns c =
    plain_fixed (omega arith) c.number-st.ensures
    ⊳ plain_switch (λ n. times n grammar.Border) (omega arith) refl c.number-st-2.ensures c.lines-st.ensures
    ⊳ c.flag-st.ensures ⊳ c.byte-st.ensures.fixed
    ⊳ c.byte-st-2.ensures.fixed ⊳ c.byte.ensures.fixed
