use Rattle.std.proofs.Common.{eq-eqb, ne_eqb}
use Rattle.std.proofs.lemmas.Bool.{le-leb, lt-leb}
use Rattle.sizes.specs.Basics.{pick}
use Rattle.members.specs.Members.{list_refusal}
use Rattle.members.proofs.list_refusal.Goals as goal
use Rattle.members.proofs.list_refusal.Goals.{else-few-via-then-few+else-even, else-few-via-else-few}

pub returns-then-even-clause-code : goal.returns-then-even-clause-code
unfolding list_refusal pick
returns-then-even-clause-code c = rw (le-leb _ _ c.if-few.true, eq-eqb _ _ c.if-even.true)

pub returns-else-few-clause-code : goal.returns-else-few-clause-code
unfolding list_refusal pick
returns-else-few-clause-code c =
    elim c.else-few.branch [ else-few-via-then-few+else-even w ↦ rw (le-leb _ _ w.if-few.true, ne_eqb _ _ w.if-even.false) | else-few-via-else-few w ↦ rw (lt-leb _ _ w.if-few.false) ]
