use mathlib.Core.Path.{◌≡◌, ◌∙◌}
use native.Mathlib.Omega.{arith}
use lib.ListN.{length}
use Rattle.total.specs.Total.{no_sums}
use Rattle.total.specs.Laws.LeafRows.{cleared_none, cleared_more, kept_length}
use Rattle.total.proofs.rows.clear.Goals as goal

pub loop-j-init : goal.loop-j-init
loop-j-init c = cleared_none _

pub set_row-requires : goal.set_row-requires
set_row-requires c =
    let l = c.loop-j in
    let same : length l.area ≡ length c.args.area.now = rw l.invariant (kept_length (λ _. no_sums) l.j c.args.area.now (omega (arith, c.requires))) in
    (omega (arith, c.requires), omega (arith, c.requires, same))

pub loop-j-preserved : goal.loop-j-preserved
loop-j-preserved c =
    let l = c.loop-j in
    c.set_row.ensures ∙ rw (l.invariant, c.no_sums.ensures) (cleared_more c.args.area.now l.j (omega (arith, c.requires)))

pub shape_of-area : goal.shape_of-area
shape_of-area c =
    let l = c.loop-j in
    rw l.invariant (kept_length (λ _. no_sums) l.j c.args.area.now (omega (arith, c.requires)))

pub returns : goal.returns
returns c =
    let l = c.loop-j in
    let z : l.j ≡ c.args.n = omega arith in
    rw z at l.invariant
