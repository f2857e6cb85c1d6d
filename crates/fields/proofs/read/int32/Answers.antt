use Rattle.grammar.specs.Layout.{little}
use Rattle.fields.specs.Laws.Slices.{peek_fits}
use Rattle.fields.specs.Laws.Gives.{number_gives}
use Rattle.fields.proofs.read.int32.Goals as goal

pub overflow_cast-result : goal.overflow_cast-result
overflow_cast-result c = record { fits = peek_fits little 4 _ c.type_inv.s _ c.peek.ensures }

pub returns : goal.returns
returns c = number_gives c.in_ok-at.ensures.low c.peek.ensures
