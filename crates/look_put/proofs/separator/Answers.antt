use mathlib.Core.Path.{refl}
use native.Mathlib.Omega.{arith}
use lib.Dec.{eqb}
use Rattle.sizes.specs.Basics.{among, pick}
use Rattle.grammar.specs.Layout.{passes}
use Rattle.layout.specs.Reads.{verdict}
use Rattle.store.specs.Laws.Puts.{◌⊳◌, plain_switch}
use Rattle.look.specs.Look as grammar
use Rattle.look_put.proofs.separator.Goals as goal

pub returns-in-NotDrawn : goal.returns-in-NotDrawn
unfolding verdict passes among pick
returns-in-NotDrawn c =
    rw c.in-NotDrawn.is
    (plain_switch (λ type. grammar.SeparatorIf (eqb type 1)) (omega arith) refl c.number-st.ensures c.byte.ensures.fixed)

pub returns-in-Drawn : goal.returns-in-Drawn
unfolding verdict passes among pick
returns-in-Drawn c =
    rw c.in-Drawn.is
    (plain_switch (λ type. grammar.SeparatorIf (eqb type 1)) (omega arith) refl
    c.number-st-in-Drawn.ensures
    (c.byte-st.ensures.fixed ⊳ c.color-st.ensures ⊳ c.int16-st.ensures.any
    ⊳ c.int16.ensures.any))
