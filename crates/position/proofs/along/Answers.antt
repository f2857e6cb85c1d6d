use Rattle.std.proofs.Common.{◌≡◌, ◌∙◌, length, refl, arith}
use lib.ListN.{drop_of_length-le}
use Rattle.grammar.specs.RecordWords.{word}
use Rattle.position.specs.Axes.{position_on}
use Rattle.position.specs.Laws.Accepted.{along_down, axis_small}
use Rattle.position.proofs.Steps.{one_outward}
use Rattle.position.proofs.along.Goals as goal

pub loop-i-init : goal.loop-i-init
unfolding position_on
loop-i-init c = rw (drop_of_length-le c.args.axis.now {i = length c.args.axis.now} (omega arith))

pub overflow_mul-p : goal.overflow_mul-p
unfolding word
overflow_mul-p c =
    let l = c.loop-i in
    let e = one_outward c.requires l.i (omega arith) (omega arith) l.invariant refl c.coordinate-x.ensures (c.from.ensures ∙ c.word.ensures) in
    omega (arith, e.1)

pub overflow_add-p : goal.overflow_add-p
unfolding word
overflow_add-p c =
    let l = c.loop-i in
    let e = one_outward c.requires l.i (omega arith) (omega arith) l.invariant refl c.coordinate-x.ensures (c.from.ensures ∙ c.word.ensures) in
    omega (arith, e.1)

pub loop-i-preserved : goal.loop-i-preserved
unfolding word
loop-i-preserved c =
    let l = c.loop-i in
    let e = one_outward c.requires l.i (omega arith) (omega arith) l.invariant refl c.coordinate-x.ensures (c.from.ensures ∙ c.word.ensures) in
    e.0

pub overflow_cast-result : goal.overflow_cast-result
overflow_cast-result c =
    let z : c.loop-i.i ≡ 0 = omega arith in
    let e = axis_small c.requires in
    let g = rw z at c.loop-i.invariant in
    omega (arith, e, g)

pub returns : goal.returns
returns c =
    let z : c.loop-i.i ≡ 0 = omega arith in
    (rw z at c.loop-i.invariant) ∙ along_down c.requires
