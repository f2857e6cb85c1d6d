use Prim.Native.Nat.{◌+◌}
use mathlib.Core.Path.{◌≡◌, refl}
use native.Mathlib.Omega.{arith}
use lib.Dec.{lit<}
use Rattle.sizes.specs.Basics.{undigit}
use Rattle.grammar.specs.Layout.{undigits}
use Rattle.layout.proofs.Digits.{more_after, bound, room}
use Rattle.layout.proofs.number.high_first.Goals as goal

pub loop-i-init : goal.loop-i-init
unfolding undigit undigits
loop-i-init c = (omega arith, lit< tt, refl)

pub overflow_mul-v : goal.overflow_mul-v
unfolding undigit undigits
overflow_mul-v c =
    let l = c.loop-i in
    omega (arith, room l.i l.v (omega arith) l.invariant.1)

pub overflow_cast-v : goal.overflow_cast-v
unfolding undigit undigits
overflow_cast-v c = omega (arith, c.type_inv.s (c.args.at + c.loop-i.i))

pub overflow_add-v-in-loop-i : goal.overflow_add-v-in-loop-i
unfolding undigit undigits
overflow_add-v-in-loop-i c =
    let a = c.args in
    let l = c.loop-i in
    omega (arith, room l.i l.v (omega arith) l.invariant.1, c.type_inv.s (a.at + l.i))

pub loop-i-preserved : goal.loop-i-preserved
unfolding undigit undigits
loop-i-preserved c =
    let a = c.args in
    let l = c.loop-i in (
      omega arith,
      bound l.i l.v _ l.invariant.1 (c.type_inv.s (a.at + l.i)).fits,
      more_after a.s.now a.at a.w l.i l.v (omega arith) (omega arith) l.invariant.2,
    )

pub returns : goal.returns
unfolding undigit undigits
returns c =
    let e : c.loop-i.i ≡ c.args.w = omega arith in
    rw e at c.loop-i.invariant.2
