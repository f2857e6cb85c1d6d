use Prim.Native.Nat.{◌+◌, ◌-◌}
use mathlib.Core.Path.{◌≡◌}
use native.Mathlib.Omega.{arith}
use native.Mathlib.Nat.{sub_self, sub-zero, add-zero}
use lib.Dec.{lit<}
use Rattle.sizes.specs.Basics.{undigit}
use Rattle.grammar.specs.Layout.{undigits}
use Rattle.layout.proofs.Digits.{more_below, bound, room}
use Rattle.layout.proofs.number.low_first.Goals as goal

pub loop-i-init : goal.loop-i-init
unfolding undigit undigits
loop-i-init c = (omega arith, simp sub_self (lit< tt), simp sub_self)

pub overflow_mul-v : goal.overflow_mul-v
unfolding undigit undigits
overflow_mul-v c =
    let l = c.loop-i in
    omega (arith, room (c.args.w - l.i) l.v (omega arith) l.invariant.1)

pub overflow_cast-v : goal.overflow_cast-v
unfolding undigit undigits
overflow_cast-v c = omega (arith, c.type_inv.s (c.args.at + (c.loop-i.i - 1)))

pub overflow_add-v-in-loop-i : goal.overflow_add-v-in-loop-i
unfolding undigit undigits
overflow_add-v-in-loop-i c =
    let a = c.args in
    let l = c.loop-i in
    omega (arith, room (a.w - l.i) l.v (omega arith) l.invariant.1, c.type_inv.s (a.at + (l.i - 1)))

pub loop-i-preserved : goal.loop-i-preserved
unfolding undigit undigits
loop-i-preserved c =
    let a = c.args in
    let l = c.loop-i in
    let one : a.w - (l.i - 1) ≡ a.w - l.i + 1 = omega arith in (
      omega arith,
      rw one (bound (a.w - l.i) l.v _ l.invariant.1 (c.type_inv.s (a.at + (l.i - 1))).fits),
      more_below a.s.now a.at a.w l.i l.v (omega arith) (omega arith) (omega arith) l.invariant.2,
    )

pub returns : goal.returns
unfolding undigit undigits
returns c =
    let e : c.loop-i.i ≡ 0 = omega arith in
    simp (sub-zero, add-zero) at (rw e at c.loop-i.invariant.2)
