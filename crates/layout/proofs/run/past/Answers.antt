use mathlib.Core.Path.{◌≡◌}
use native.Mathlib.Omega.{arith}
use Rattle.layout.proofs.Runs.{lead_none, lead_past, lead_other, lead_more}
use Rattle.layout.proofs.run.past.Goals as goal

pub returns-then-s-i : goal.returns-then-s-i
returns-then-s-i c =
    let a = c.args in
    omega (arith, c.loop-k.invariant, lead_past a.b a.s.now c.loop-k.i c.loop-k.k c.if-s-i.true)

pub returns-then-s-i-2 : goal.returns-then-s-i-2
returns-then-s-i-2 c =
    let a = c.args in
    omega (arith, c.loop-k.invariant, lead_other a.b a.s.now c.loop-k.i c.loop-k.k (omega arith) c.if-s-i-2.true)

pub loop-k-preserved : goal.loop-k-preserved
loop-k-preserved c =
    let a = c.args in
    omega (arith, c.loop-k.invariant, lead_more a.b a.s.now c.loop-k.i c.loop-k.k (omega arith) (omega arith) c.if-s-i-2.false)

pub returns : goal.returns
returns c =
    let a = c.args in
    let z : c.loop-k.k ≡ 0 = omega arith in
    omega (arith, rw z at c.loop-k.invariant, lead_none a.b a.s.now c.loop-k.i)
