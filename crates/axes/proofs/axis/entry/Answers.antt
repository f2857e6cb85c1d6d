use Rattle.std.proofs.Common.{sym, ap, ◌∙◌}
use Rattle.std.proofs.lemmas.Result.{err_from_is_err_and}
use Rattle.refusals.specs.Numbers.{by_number}
use Rattle.layout.specs.Steps.Slices.{bytes_of}
use Rattle.axes.specs.Laws.Axes.{no_entry, fresh_entry, stale_entry}
use Rattle.axes.proofs.axis.entry.Goals as goal

pub returns-in_err-next : goal.returns-in_err-next
returns-in_err-next c =
    let p = err_from_is_err_and c.from_residual.result c.from_residual.ensures.1 in
    rw (p.1, p.2) (no_entry _ (bytes_of _ c.type_inv.s) _ _ _ _ c.any.ensures.low (ap by_number c.in_err-next.was))

pub returns-then-not-is_fresh : goal.returns-then-not-is_fresh
returns-then-not-is_fresh c =
    stale_entry _ (bytes_of _ c.type_inv.s) _ _ _ _ c.any.ensures.low (ap by_number c.in_ok-next.was) c.peek-x.ensures (sym c.is_fresh.ensures ∙ c.if-not-is_fresh.true)

pub returns : goal.returns
returns c =
    fresh_entry _ (bytes_of _ c.type_inv.s) _ _ _ _ c.any.ensures.low (ap by_number c.in_ok-next.was) c.peek-x.ensures (sym c.is_fresh.ensures ∙ c.if-not-is_fresh.false)
