use Rattle.std.proofs.Common.{refl, ap}
use Rattle.std.proofs.lemmas.Result.{err_from_is_err_and}
use Rattle.refusals.specs.Numbers.{by_number}
use Rattle.layout.specs.Steps.Chain.{kept, ◌◂◌}
use Rattle.layout.specs.Steps.Keeping.{kept_on, kept_off}
use Rattle.table.specs.Laws.InMember.{in_member}
use Rattle.table.specs.Laws.Dims.{no_start, no_categories, close_dim}
use Rattle.table.proofs.dimension.dimension.Goals as goal

pub returns-in_err-name : goal.returns-in_err-name
returns-in_err-name c =
    let m = c.args.member in
    let p = err_from_is_err_and c.from_residual.result c.from_residual.ensures.1 in
    rw (p.1, p.2) (no_start _ _ (in_member m.are_bytes) m.short _ _ (kept refl ◂ kept refl ◂ rw c.in_err-name.was at c.value.ensures) refl)

pub returns-in_err-any : goal.returns-in_err-any
returns-in_err-any c =
    let m = c.args.member in
    let p = err_from_is_err_and c.from_residual-in_err-any.result c.from_residual-in_err-any.ensures.1 in
    rw (p.1, p.2) (no_start _ _ (in_member m.are_bytes) m.short _ _ (c.any.ensures.low ◂ c.properties-before.ensures ◂ rw c.in_ok-name.was at c.value.ensures) (ap by_number c.in_err-any.was))

pub returns-in_err-end : goal.returns-in_err-end
returns-in_err-end c =
    let m = c.args.member in
    let p = err_from_is_err_and c.from_residual-in_err-end.result c.from_residual-in_err-end.ensures.1 in
    let v = rw c.in_ok-name.was at c.value.ensures in
    rw (p.1, p.2) (no_categories _ _ (in_member m.are_bytes) m.short _ _ c.args.from.few c.requires.1
    v (c.properties-before.ensures ◂ v) c.any.ensures.low c.peek-n.ensures (ap by_number c.in_ok-any.was)
    (kept_off (rw c.in_err-end.was at c.categories.ensures)))

pub returns : goal.returns
returns c =
    let m = c.args.member in
    let v = rw c.in_ok-name.was at c.value.ensures in
    let r = kept_on (rw c.in_ok-end.was at c.categories.ensures) in
    close_dim _ _ (in_member m.are_bytes) m.short _ _ c.args.from.few c.requires.1
    v (c.properties-before.ensures ◂ v) c.any.ensures.low c.peek-n.ensures (ap by_number c.in_ok-any.was)
    {ts = r.tree} r.is r.keeps (rw c.length.ensures at c.close.ensures)
