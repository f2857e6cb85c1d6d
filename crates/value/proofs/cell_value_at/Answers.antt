use mathlib.Core.Path.{refl, ap}
use Rattle.std.specs.Prelude.{Ok}
use Rattle.sizes.specs.Basics.{among, pick}
use Rattle.layout.specs.Reads.{skip}
use Rattle.layout.specs.Steps.Chain.{in_same}
use Rattle.sizes.specs.Sizes.{below_value}
use Rattle.grammar.specs.Value.{ValueIn}
use Rattle.value.specs.Laws.Forms.{after_cell_zeros, form_of}
use Rattle.value.proofs.cell_value_at.Goals as goal

pub returns-then-x-eq1 : goal.returns-then-x-eq1
unfolding skip among pick
returns-then-x-eq1 c =
    let v = c.args.version in
    after_cell_zeros _ c.cell_zeros.ensures
    (form_of v (ValueIn v below_value) c.if-x-eq1.true refl refl c.form_01.ensures c.peek-x.ensures c.any.ensures.low)
    (ap Ok c.past-from.ensures)

pub returns : goal.returns
unfolding skip among pick
returns c = after_cell_zeros _ c.cell_zeros.ensures (in_same c.whole.ensures c.raw_value.ensures) (ap Ok c.past-from.ensures)
