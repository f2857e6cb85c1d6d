use Rattle.std.proofs.lemmas.Result.{err_from_is_err_and}
use Rattle.grammar.specs.Layout.{little}
use Rattle.layout.specs.Steps.Numbers.{tested_of}
use Rattle.fields.specs.Laws.Slices.{peek_fits}
use Rattle.fields.specs.Laws.Gives.{number_gives}
use Rattle.fields.proofs.read.small.Goals as goal

pub returns-in_err-at : goal.returns-in_err-at
returns-in_err-at c =
    let p = err_from_is_err_and c.from_residual.result c.from_residual.ensures.1 in
    rw (p.1, p.2) (tested_of c.in_err-at.ensures c.limit.ensures.code c.peek-v.ensures)

pub overflow_cast-result : goal.overflow_cast-result
overflow_cast-result c = record { fits = peek_fits little 1 _ c.type_inv.s _ c.peek-v.ensures }

pub returns : goal.returns
returns c = number_gives (tested_of c.in_ok-at.ensures c.limit.ensures.code c.peek-v.ensures) c.peek-v.ensures
