use Rattle.std.proofs.Common.{refl}
use Rattle.std.proofs.lemmas.Result.{err_from_is_err_and}
use Rattle.layout.specs.Steps.Chain.{from_refused}
use Rattle.look.proofs.Versions.{with_v2, without_v2}
use Rattle.look.proofs.read.v2_styles_if.Goals as goal

pub returns-then-new : goal.returns-then-new
returns-then-new c = with_v2 _ _ _ _ c.if-new.true c.v2_styles.ensures

pub returns-in_err-st : goal.returns-in_err-st
returns-in_err-st c =
    let p = err_from_is_err_and c.from_residual.result c.from_residual.ensures.1 in
    rw (p.1, p.2, c.in_err-st.was) (from_refused refl)

pub returns-in_ok-st : goal.returns-in_ok-st
returns-in_ok-st c = rw c.in_ok-st.was (without_v2 _ c.default_v2_styles.result c.if-new.false c.default_v2_styles.ensures)
