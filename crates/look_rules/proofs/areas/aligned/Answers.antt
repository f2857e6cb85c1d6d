use Rattle.std.proofs.lemmas.Result.{err_from_is_err_and}
use Rattle.std.proofs.Common.{refl, leb}
use Rattle.look_rules.specs.StyleRule.{align_rule}
use Rattle.look_rules.proofs.Laws.Walk.{asks_number, refused_asks, refused_checks}
use Rattle.look_rules.proofs.areas.aligned.Goals as goal

pub returns-in_err-at : goal.returns-in_err-at
unfolding align_rule
returns-in_err-at c =
    let p = err_from_is_err_and c.from_residual.result c.from_residual.ensures.1 in
    rw (p.1, p.2, c.in_err-at.was) refused_checks

pub returns-in_err-value : goal.returns-in_err-value
unfolding align_rule
returns-in_err-value c =
    let p = err_from_is_err_and c.from_residual-in_err-value.result c.from_residual-in_err-value.ensures.1 in
    rw (p.1, p.2, c.in_ok-at.was) (refused_asks _ c.in_err-value.ensures)

pub returns : goal.returns
unfolding align_rule
returns c = rw c.in_ok-at.was (asks_number (λ v. leb v c.args.last) c.in_ok-value.ensures refl c.told.ensures)
