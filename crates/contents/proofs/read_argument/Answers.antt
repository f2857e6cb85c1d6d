use Rattle.std.proofs.Common.{refl}
use Rattle.std.proofs.lemmas.Result.{err_from_is_err_and}
use Rattle.grammar.specs.Layout.{little}
use Rattle.layout.specs.Steps.Slices.{bytes_of}
use Rattle.fields.specs.Laws.Slices.{peek_fits}
use Rattle.contents.specs.Laws.Answers.{argument_answers}
use Rattle.contents.proofs.Unread.{unread_answers}
use Rattle.contents.proofs.read_argument.Goals as goal

pub returns-in_err-readable : goal.returns-in_err-readable
returns-in_err-readable c =
    let p = err_from_is_err_and c.from_residual.result c.from_residual.ensures.1 in
    rw (p.1, p.2) (unread_answers _ _ _ _ _ c.in_err-readable.field-0.0 c.in_err-readable.ensures)

pub returns-in_err-length : goal.returns-in_err-length
returns-in_err-length c =
    let p = err_from_is_err_and c.from_residual-in_err-length.result c.from_residual-in_err-length.ensures.1 in
    rw (p.1, p.2) (argument_answers _ c.in_ok-readable.ensures (bytes_of _ c.type_inv.s) c.in_err-length.ensures c.peek-x.ensures refl)

pub overflow_cast-x : goal.overflow_cast-x
overflow_cast-x c = record { fits = peek_fits little 4 _ c.type_inv.s _ c.peek-x.ensures }

pub returns : goal.returns
returns c = argument_answers _ c.in_ok-readable.ensures (bytes_of _ c.type_inv.s) c.in_ok-length.ensures c.peek-x.ensures c.argument_of.ensures
