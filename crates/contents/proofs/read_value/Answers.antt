use Rattle.std.proofs.Common.{◌≡◌, refl, ℕ, arith}
use Rattle.std.proofs.lemmas.Result.{err_from_is_err_and}
use Rattle.layout.specs.Reads.{skip}
use Rattle.layout.specs.Steps.Slices.{bytes_of}
use Rattle.fields.specs.Laws.Shows.{refused_shows}
use Rattle.contents.specs.Laws.Answers.{value_answers}
use Rattle.contents.proofs.Unread.{unread_answers}
use Rattle.contents.proofs.Values.{blank}
use Rattle.contents.proofs.read_value.Goals as goal

pub returns-in_err-readable : goal.returns-in_err-readable
returns-in_err-readable c =
    let p = err_from_is_err_and c.from_residual.result c.from_residual.ensures.1 in
    rw (p.1, p.2) (unread_answers _ _ _ _ _ c.in_err-readable.field-0.0 c.in_err-readable.ensures)

pub returns-in_err-zeros : goal.returns-in_err-zeros
unfolding skip
returns-in_err-zeros c =
    let never = c.in_err-zeros.ensures in
    absurd (let z : ◌≡◌ {A = ℕ} 0 1 = cc in omega arith)

pub returns-in_err-raw : goal.returns-in_err-raw
returns-in_err-raw c =
    let q = err_from_is_err_and c.from_residual-in_err-raw.result c.from_residual-in_err-raw.ensures.1 in
    rw (q.1, q.2)
    (value_answers _ {y = blank} c.in_ok-readable.ensures (bytes_of _ c.type_inv.s) c.cell_zeros.ensures (refused_shows refl c.in_err-raw.ensures)
    c.in_ok-zeros.ensures refl)

pub returns : goal.returns
returns c =
    value_answers _ c.in_ok-readable.ensures (bytes_of _ c.type_inv.s) c.cell_zeros.ensures c.in_ok-raw.ensures c.in_ok-zeros.ensures refl
