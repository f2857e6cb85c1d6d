use Rattle.std.proofs.lemmas.Bool.{le-leb, lt-leb}
use native.Mathlib.Omega.{arith}
use Rattle.std.proofs.lemmas.Result.{err_from_is_err_and}
use Rattle.table.specs.Laws.InMember.{in_member}
use Rattle.member.specs.Laws.Whole.{axes_later, too_many_places, no_axes, no_cells, with_cells}
use Rattle.member.proofs.after_dims.Goals as goal

pub returns-then-places-gt-MOST_PLACES : goal.returns-then-places-gt-MOST_PLACES
returns-then-places-gt-MOST_PLACES c =
    let a = c.args in
    let m = a.member in
    let b = in_member m.are_bytes in
    λ ts few d-is ns inside.
    too_many_places _ m.bytes.now b a.at a.d a.dims.now c.product_of-places.ensures ts few d-is ns inside (lt-leb _ _ c.if-places-gt-MOST_PLACES.true)

pub cells_and_end-requires : goal.cells_and_end-requires
cells_and_end-requires c =
    let a = c.args in
    let m = a.member in
    let later = axes_later m.bytes.now (in_member m.are_bytes) a.at _ (rw c.in_ok-axes.was at c.axes.ensures) in
    omega (arith, later, c.requires)

pub returns-in_err-axes : goal.returns-in_err-axes
returns-in_err-axes c =
    let a = c.args in
    let m = a.member in
    let b = in_member m.are_bytes in
    let p = err_from_is_err_and c.from_residual.result c.from_residual.ensures.1 in
    rw (p.1, p.2)
    (λ ts few d-is ns inside.
    no_axes _ m.bytes.now b a.at a.d a.dims.now c.product_of-places.ensures ts few d-is ns inside (le-leb _ _ c.if-places-gt-MOST_PLACES.false) (rw c.in_err-axes.was at c.axes.ensures))

pub returns-in_err-n : goal.returns-in_err-n
returns-in_err-n c =
    let a = c.args in
    let m = a.member in
    let b = in_member m.are_bytes in
    let p = err_from_is_err_and c.from_residual-in_err-n.result c.from_residual-in_err-n.ensures.1 in
    rw (p.1, p.2)
    (λ ts few d-is ns inside.
    no_cells _ m.bytes.now b a.at a.d a.dims.now c.product_of-places.ensures ts few d-is ns inside (le-leb _ _ c.if-places-gt-MOST_PLACES.false) (rw c.in_ok-axes.was at c.axes.ensures) (rw c.in_err-n.was at c.cells_and_end.ensures))

pub returns : goal.returns
returns c =
    let a = c.args in
    let m = a.member in
    let b = in_member m.are_bytes in
    λ ts few d-is ns inside.
    with_cells _ m.bytes.now b a.at a.d a.dims.now c.product_of-places.ensures ts few d-is ns inside (le-leb _ _ c.if-places-gt-MOST_PLACES.false) (rw c.in_ok-axes.was at c.axes.ensures) (rw c.in_ok-n.was at c.cells_and_end.ensures)
