use Rattle.grammar.specs.Layout.{little}
use Rattle.fields.specs.Laws.Slices.{peek_fits}
use Rattle.contents.proofs.plain.plain_format.Goals as goal

pub overflow_cast-result : goal.overflow_cast-result
overflow_cast-result c = record { fits = peek_fits little 4 _ c.type_inv.s _ c.peek.ensures }

pub returns : goal.returns
returns c = c.peek.ensures
