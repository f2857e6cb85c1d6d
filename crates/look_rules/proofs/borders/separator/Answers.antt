use Rattle.std.proofs.lemmas.Result.{err_from_is_err_and}
use Rattle.look_rules.specs.StyleRule.{separator_rule}
use Rattle.look_rules.proofs.Laws.Walk.{asks_of, refused_asks, refused_checks}
use Rattle.look_rules.proofs.Laws.Listed.{shows_listed}
use Rattle.look_rules.proofs.borders.separator.Goals as goal

pub returns-in_err-at : goal.returns-in_err-at
unfolding separator_rule
returns-in_err-at c =
    let p = err_from_is_err_and c.from_residual.result c.from_residual.ensures.1 in
    rw (p.1, p.2, c.in_err-at.was) refused_checks

pub returns-in_err-value : goal.returns-in_err-value
unfolding separator_rule
returns-in_err-value c =
    let p = err_from_is_err_and c.from_residual-in_err-value.result c.from_residual-in_err-value.ensures.1 in
    rw (p.1, p.2, c.in_ok-at.was) (refused_asks _ c.in_err-value.ensures)

pub returns : goal.returns
unfolding separator_rule
returns c = rw c.in_ok-at.was (asks_of (shows_listed c.in_ok-value.value c.in_ok-value.ensures) c.listed_border.ensures c.told.ensures)
