-- Each way out gives the number that the specification gives there.
use Rattle.std.proofs.Common.{arith, refl}
use Rattle.position.proofs.Answering.{many, large, uneven, unlike, unordered, accepted}
use Rattle.position.proofs.Table.accept.Goals as goal
use Rattle.position.proofs.Table.accept.Goals.{then-d-gt-MOST_DIMENSIONS-via-then-d-gt-MOST_DIMENSIONS, then-d-gt-MOST_DIMENSIONS-via-else-d-gt-MOST_DIMENSIONS+then-places-gt-MOST_PLACES, then-from-d-via-then-from-d, then-from-d-via-else-from-d+then-order-d, then-from-d-via-else-from-d+else-order-d+then-not-permutes}

pub returns-then-d-gt-MOST_DIMENSIONS : goal.returns-then-d-gt-MOST_DIMENSIONS
returns-then-d-gt-MOST_DIMENSIONS c =
    elim c.then-d-gt-MOST_DIMENSIONS.branch [
      | then-d-gt-MOST_DIMENSIONS-via-then-d-gt-MOST_DIMENSIONS w ↦ (many _ _ _ _ _ (omega arith), refl)
      | then-d-gt-MOST_DIMENSIONS-via-else-d-gt-MOST_DIMENSIONS+then-places-gt-MOST_PLACES w ↦ (large _ _ _ _ _ (omega arith) w.places.ensures (omega arith), refl)
    ]

pub returns-then-from-d : goal.returns-then-from-d
returns-then-from-d c =
    let few = c.if-d-gt-MOST_DIMENSIONS.false in
    let is = c.places.ensures in
    elim c.then-from-d.branch [
      | then-from-d-via-then-from-d w ↦ (uneven _ _ _ _ _ few is (omega arith) (λ e. w.if-from-d.true (omega arith)), refl)
      | then-from-d-via-else-from-d+then-order-d w ↦ (unlike _ _ _ _ _ few is (omega arith) (omega arith) w.if-order-d.true, refl)
      | then-from-d-via-else-from-d+else-order-d+then-not-permutes w ↦ (unordered _ _ _ _ _ few is (omega arith) (omega arith) w.if-order-d.false w.permutes.ensures w.if-not-permutes.true, refl)
    ]

pub invariant_of-result : goal.invariant_of-result
invariant_of-result c =
    record {
      whole = omega arith;
      accepted = accepted _ _ _ _ _ c.if-d-gt-MOST_DIMENSIONS.false c.places.ensures (omega arith) (omega arith) c.if-order-d.false c.permutes.ensures c.if-not-permutes.false;
    }
