use Rattle.std.proofs.lemmas.Result.{err_from_is_err_and}
use Rattle.look_rules.specs.StyleRule.{has_height, size_rule}
use Rattle.look_rules.proofs.Laws.Walk.{asks_number, refused_asks, refused_checks}
use Rattle.look_rules.proofs.areas.font_size.Goals as goal

pub returns-in_err-at : goal.returns-in_err-at
unfolding size_rule
returns-in_err-at c =
    let p = err_from_is_err_and c.from_residual.result c.from_residual.ensures.1 in
    rw (p.1, p.2, c.in_err-at.was) refused_checks

pub returns-in_err-bits : goal.returns-in_err-bits
unfolding size_rule
returns-in_err-bits c =
    let p = err_from_is_err_and c.from_residual-in_err-bits.result c.from_residual-in_err-bits.ensures.1 in
    rw (p.1, p.2, c.in_ok-at.was) (refused_asks _ c.in_err-bits.ensures)

pub returns : goal.returns
unfolding size_rule
returns c = rw c.in_ok-at.was (asks_number has_height c.in_ok-bits.ensures c.has_height.ensures c.told.ensures)
