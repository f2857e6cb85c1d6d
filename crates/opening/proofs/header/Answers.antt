use mathlib.Core.Path.{ap}
use Rattle.std.proofs.lemmas.Result.{err_from_is_err_and}
use Rattle.refusals.specs.Numbers.{by_number}
use Rattle.layout.specs.Steps.Slices.{bytes_of}
use Rattle.opening.specs.Laws.Header.{header_on, header_off}
use Rattle.opening.proofs.header.Goals as goal

pub returns-in_err-at : goal.returns-in_err-at
returns-in_err-at c =
    let p = err_from_is_err_and c.from_residual.result c.from_residual.ensures.1 in
    rw (p.1, p.2) (header_off (bytes_of _ c.type_inv.s) c.start-st.ensures c.peek-version.ensures c.version.ensures (ap by_number c.in_err-at.was))

pub returns : goal.returns
returns c = header_on (bytes_of _ c.type_inv.s) c.start-st.ensures c.peek-version.ensures c.version.ensures (ap by_number c.in_ok-at.was)
