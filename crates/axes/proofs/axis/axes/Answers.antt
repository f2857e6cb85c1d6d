use Rattle.std.proofs.Common.{sym, ap, ◌∙◌, arith}
use Rattle.std.proofs.lemmas.Result.{err_from_is_err_and}
use Rattle.refusals.specs.Numbers.{by_number}
use Rattle.layout.specs.Steps.Keeping.{kept_off}
use Rattle.layout.specs.Steps.Slices.{bytes_of}
use Rattle.axes.specs.Laws.Axes.{no_counts, not_summed, no_entries, the_entries}
use Rattle.axes.proofs.axis.axes.Goals as goal

pub returns-in_err-first : goal.returns-in_err-first
returns-in_err-first c =
    let b = bytes_of _ c.type_inv.s in
    let p = err_from_is_err_and c.from_residual.result c.from_residual.ensures.1 in
    rw (p.1, p.2, ← c.min-d.ensures) (no_counts _ b _ c.min-d.result c.any-a.ensures.low c.any-b.ensures.low c.any.ensures.low (ap by_number c.in_err-first.was))

pub returns-then-not-adds_up : goal.returns-then-not-adds_up
returns-then-not-adds_up c =
    let b = bytes_of _ c.type_inv.s in
    rw (← c.min-d.ensures) (not_summed _ b _ c.min-d.result c.any-a.ensures.low c.any-b.ensures.low c.any.ensures.low (ap by_number c.in_ok-first.was) c.peek-layers.ensures c.peek-rows.ensures c.peek-columns.ensures (sym c.adds_up.ensures ∙ c.if-not-adds_up.true))

pub returns-in_err-end : goal.returns-in_err-end
returns-in_err-end c =
    let b = bytes_of _ c.type_inv.s in
    let p = err_from_is_err_and c.from_residual-in_err-end.result c.from_residual-in_err-end.ensures.1 in
    rw (p.1, p.2, ← c.min-d.ensures) (no_entries _ b _ c.min-d.result c.any-a.ensures.low c.any-b.ensures.low c.any.ensures.low (ap by_number c.in_ok-first.was) c.peek-layers.ensures c.peek-rows.ensures c.peek-columns.ensures (sym c.adds_up.ensures ∙ c.if-not-adds_up.false) (kept_off (rw c.in_err-end.was at c.entries.ensures)))

pub returns : goal.returns
returns c =
    let b = bytes_of _ c.type_inv.s in
    rw (← c.min-d.ensures) (the_entries _ b _ c.min-d.result c.any-a.ensures.low c.any-b.ensures.low c.any.ensures.low (ap by_number c.in_ok-first.was) c.peek-layers.ensures c.peek-rows.ensures c.peek-columns.ensures (sym c.adds_up.ensures ∙ c.if-not-adds_up.false) (omega arith) (rw c.in_ok-end.was at c.entries.ensures))
