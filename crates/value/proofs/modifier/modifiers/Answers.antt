use mathlib.Core.Path.{refl}
use Rattle.std.proofs.lemmas.Result.{err_from_is_err_and}
use Rattle.layout.specs.Steps.Chain.{from_refused, in_same}
use Rattle.value.proofs.modifier.modifiers.Goals as goal

pub returns-in_err-st : goal.returns-in_err-st
returns-in_err-st c =
    let p = err_from_is_err_and c.from_residual.result c.from_residual.ensures.1 in
    rw (p.1, p.2, c.in_err-st.was) (from_refused refl)

pub returns : goal.returns
returns c = rw c.in_ok-st.was (in_same c.whole.ensures c.modifiers_at.ensures)
