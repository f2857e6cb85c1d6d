use mathlib.Core.Path.{ap}
use native.Mathlib.Omega.{arith}
use Rattle.std.proofs.lemmas.Result.{err_from_is_err_and}
use Rattle.refusals.specs.Numbers.{by_number}
use Rattle.layout.specs.Steps.Slices.{bytes_of}
use Rattle.opening.specs.Laws.Opening.{longer, no_header, no_front, opened}
use Rattle.opening.proofs.opening.Goals as goal

pub returns-then-s-gt-MEMBER_BYTES : goal.returns-then-s-gt-MEMBER_BYTES
returns-then-s-gt-MEMBER_BYTES c = longer c.args.s.now (omega arith)

pub returns-in_err-version : goal.returns-in_err-version
returns-in_err-version c =
    let p = err_from_is_err_and c.from_residual.result c.from_residual.ensures.1 in
    rw (p.1, p.2) (no_header c.args.s.now (omega arith) c.in_err-version.ensures)

pub returns-in_err-end : goal.returns-in_err-end
returns-in_err-end c =
    let p = err_from_is_err_and c.from_residual-in_err-end.result c.from_residual-in_err-end.ensures.1 in
    rw (p.1, p.2) (no_front _ c.args.s.now (bytes_of _ c.type_inv.s) (omega arith) c.in_ok-version.ensures c.front.ensures (ap by_number c.in_err-end.was))

pub returns : goal.returns
returns c = opened _ c.args.s.now (bytes_of _ c.type_inv.s) (omega arith) c.in_ok-version.ensures c.front.ensures (ap by_number c.in_ok-end.was)
