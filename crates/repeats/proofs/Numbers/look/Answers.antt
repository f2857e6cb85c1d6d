use Rattle.std.proofs.Common.{◌+◌, refl, arith}
use Rattle.repeats.specs.Laws.Places.{at_bucket, is_old, is_new, further}
use Rattle.repeats.proofs.Numbers.look.Goals as goal

pub loop-steps-init : goal.loop-steps-init
loop-steps-init c = (0, refl, refl, rw c.bucket-slot.ensures (at_bucket _ _ _ _ c.requires.2))

pub returns-then-next-eq0 : goal.returns-then-next-eq0
returns-then-next-eq0 c = let i = c.loop-steps.invariant in is_new i.3 _ (omega arith) (omega (arith, i.3.inside)) c.if-next-eq0.true

pub returns-then-nth-x : goal.returns-then-nth-x
returns-then-nth-x c =
    let i = c.loop-steps.invariant in
    is_old i.3 c.if-next-eq0.false refl c.nth.ensures _ (omega arith) c.if-nth-x.true

pub loop-steps-preserved : goal.loop-steps-preserved
loop-steps-preserved c =
    let i = c.loop-steps.invariant in
    (i.0 + 1, i.1, omega arith, further i.3 c.if-next-eq0.false refl c.nth.ensures c.if-nth-x.false (omega arith) (omega arith))
