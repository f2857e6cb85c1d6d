use Rattle.std.proofs.Common.{refl, eq-eqb, ne_eqb}
use Rattle.sizes.specs.Basics.{among, pick}
use Rattle.layout.proofs.number.unless_either.Goals as goal
use Rattle.layout.proofs.number.unless_either.Goals.{then-v-a-via-then-v-a, then-v-a-via-else-v-a+then-v-b}

pub returns-then-v-a-clause-code : goal.returns-then-v-a-clause-code
unfolding among pick
returns-then-v-a-clause-code c =
    elim c.then-v-a.branch [
      | then-v-a-via-then-v-a w ↦ rw (eq-eqb _ _ w.if-v-a.true) refl
      | then-v-a-via-else-v-a+then-v-b w ↦ rw (ne_eqb _ _ w.if-v-a.false, eq-eqb _ _ w.if-v-b.true) refl
    ]

pub returns-clause-code : goal.returns-clause-code
unfolding among pick
returns-clause-code c = rw (ne_eqb _ _ c.if-v-a.false, ne_eqb _ _ c.if-v-b.false) refl
