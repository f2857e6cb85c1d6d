use Rattle.std.proofs.Common.{◌≡◌, ◌∙◌, refl, arith}
use Rattle.grammar.specs.RecordWords.{word}
use Rattle.position.specs.Axes.{coordinate_on}
use Rattle.position.specs.Laws.Table.{down}
use Rattle.position.proofs.Fronts.{down_front}
use Rattle.position.proofs.Steps.{at_entry, past_entry, cut_off}
use Rattle.position.proofs.coordinate.Goals as goal

pub returns-then-i-e : goal.returns-then-i-e
unfolding word
returns-then-i-e c =
    let l = c.loop-i in
    at_entry _ _ _ (down_front l.i (omega arith)) l.invariant.1 refl c.if-i-e.true (c.remainder.ensures ∙ rw (c.quotient.ensures, c.from.ensures, c.from-then-i-e.ensures))

pub loop-i-preserved : goal.loop-i-preserved
unfolding word
loop-i-preserved c =
    let l = c.loop-i in
    (omega arith, past_entry _ _ _ (down_front l.i (omega arith)) l.invariant.1 refl c.if-i-e.false (cut_off _ l.step _ (omega arith) c.times-step.ensures))

pub returns : goal.returns
unfolding coordinate_on down
returns c =
    let z : c.loop-i.i ≡ 0 = omega arith in
    rw z at c.loop-i.invariant.1
