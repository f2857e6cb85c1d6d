use mathlib.Core.Path.{◌≡◌}
use Prim.Native.Nat.{◌-◌, ◌*◌}
use native.Mathlib.Nat.{sub-zero}
use native.Mathlib.Omega.{arith}
use lib.ListN.{drop, length}
use Rattle.sizes.specs.Sizes.{leaf_total_words}
use Rattle.total.specs.Total.{sums}
use Rattle.total.specs.Laws.Words.{under_by, records_say}
use Rattle.total.specs.Laws.LeafRows.{kept_length, none_scattered, one_scattered, has_room}
use Rattle.total.proofs.rows.scatter_all.Goals as goal

pub loop-i-init : goal.loop-i-init
loop-i-init c =
    let a = c.args in
    none_scattered a.x.member.now a.g.version a.x.cell_list.now a.g.block a.g.step a.n (drop (leaf_total_words * a.n) a.area.now) a.g.cells c.requires.3

pub scatter-requires : goal.scatter-requires
scatter-requires c =
    let l = c.loop-i in
    let a = c.args in
    let rest = drop (leaf_total_words * a.n) a.area.now in
    let same : length l.area ≡ length a.area.now =
    rw l.invariant (kept_length (λ j. sums (under_by a.g.block a.g.step j) (records_say a.x.member.now a.g.version a.x.cell_list.now l.i (a.g.cells - l.i))) a.n a.area.now c.requires.2) in
    (omega (arith, c.requires), c.requires.1, omega (arith, c.requires.2, same), has_room a.x.member.now a.g.version a.x.cell_list.now a.g.block a.g.step a.n rest l.i (a.g.cells - l.i) (omega (arith, c.requires.0)) l.invariant)

pub loop-i-preserved : goal.loop-i-preserved
loop-i-preserved c =
    let l = c.loop-i in
    let a = c.args in
    one_scattered a.x.member.now a.g.version a.x.cell_list.now a.g.block a.g.step a.n (drop (leaf_total_words * a.n) a.area.now) l.i a.g.cells (omega arith) l.auto.i l.invariant c.scatter.ensures

pub shape_of-area : goal.shape_of-area
shape_of-area c =
    let l = c.loop-i in
    let a = c.args in
    rw l.invariant (kept_length (λ j. sums (under_by a.g.block a.g.step j) (records_say a.x.member.now a.g.version a.x.cell_list.now l.i (a.g.cells - l.i))) a.n a.area.now c.requires.2)

pub returns : goal.returns
returns c =
    let l = c.loop-i in
    let z : l.i ≡ 0 = omega arith in
    rw sub-zero at (rw z at l.invariant)
