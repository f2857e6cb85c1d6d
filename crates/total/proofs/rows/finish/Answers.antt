use mathlib.Core.Path.{◌≡◌, refl, ◌∙◌}
use native.Mathlib.Omega.{arith}
use lib.ListN.{length}
use Rattle.total.specs.Laws.LeafRows.{finished, finished_more, finished_length}
use Rattle.total.specs.Laws.Doubles.{answered_numbers}
use Rattle.total.proofs.rows.finish.Goals as goal

pub loop-j-init : goal.loop-j-init
unfolding finished
loop-j-init c = refl

pub row-s-requires : goal.row-s-requires
unfolding finished
row-s-requires c = omega (arith, c.requires)

pub answer_row-requires : goal.answer_row-requires
unfolding finished
answer_row-requires c =
    let l = c.loop-j in
    let same : length l.area ≡ length c.args.area.now = rw l.invariant (finished_length c.args.nodes c.args.cells l.j c.args.area.now) in
    (rw c.answered.ensures (answered_numbers _ _ _), omega (arith, c.requires), omega (arith, c.requires, same))

pub loop-j-preserved : goal.loop-j-preserved
unfolding finished
loop-j-preserved c =
    let l = c.loop-j in
    c.answer_row.ensures ∙ rw (c.answered.ensures, c.row-s.ensures, l.invariant) (finished_more c.args.nodes c.args.cells l.j c.args.area.now)

pub shape_of-area : goal.shape_of-area
unfolding finished
shape_of-area c = rw c.loop-j.invariant (finished_length _ _ c.loop-j.j c.args.area.now)

pub returns : goal.returns
unfolding finished
returns c =
    let l = c.loop-j in
    let z : l.j ≡ c.args.n = omega arith in
    rw z at l.invariant
