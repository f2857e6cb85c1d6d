use Rattle.std.proofs.Common.{◌*◌, ◌^◌, ◌≤◌, arith}
use Rattle.std.proofs.Math.Nat.{div-lt_iff_lt-mul, pow-le-pow_right, mul-le-mul_left}
use borrow.Author.Tests.{eq-eqb, ne_eqb, lt-ltb, le-ltb, le-leb, lt-leb}
use Rattle.sizes.specs.Basics.{pick}
use Rattle.counts.specs.Count.{count}
use Rattle.counts.proofs.count.Goals as goal
use Rattle.counts.proofs.count.Goals.{then-bits-ge-SIGN-via-then-bits-ge-SIGN, then-bits-ge-SIGN-via-else-bits-ge-SIGN+then-e-lt-LEAST_EXPONENT, then-bits-ge-SIGN-via-else-bits-ge-SIGN+else-e-lt-LEAST_EXPONENT+then-e-gt-GREATEST_EXPONENT}

pub returns-then-magnitude-eq0 : goal.returns-then-magnitude-eq0
unfolding count pick
returns-then-magnitude-eq0 c = rw (eq-eqb _ _ c.if-magnitude-eq0.true)

pub returns-then-bits-ge-SIGN : goal.returns-then-bits-ge-SIGN
unfolding count pick
returns-then-bits-ge-SIGN c =
    let z = ne_eqb _ _ c.if-magnitude-eq0.false in
    elim c.then-bits-ge-SIGN.branch [
      | then-bits-ge-SIGN-via-then-bits-ge-SIGN w ↦ rw (z, le-ltb _ _ w.if-bits-ge-SIGN.true)
      | then-bits-ge-SIGN-via-else-bits-ge-SIGN+then-e-lt-LEAST_EXPONENT w ↦ rw (z, lt-ltb _ _ w.if-bits-ge-SIGN.false, lt-leb _ _ w.if-e-lt-LEAST_EXPONENT.true)
      | then-bits-ge-SIGN-via-else-bits-ge-SIGN+else-e-lt-LEAST_EXPONENT+then-e-gt-GREATEST_EXPONENT w ↦
          rw (z, lt-ltb _ _ w.if-bits-ge-SIGN.false, le-leb _ _ w.if-e-lt-LEAST_EXPONENT.false, lt-leb _ _ w.if-e-gt-GREATEST_EXPONENT.true)
    ]

pub returns-then-s-d-ne0 : goal.returns-then-s-d-ne0
unfolding count pick
returns-then-s-d-ne0 c =
    rw (
      ne_eqb _ _ c.if-magnitude-eq0.false,
      lt-ltb _ _ c.if-bits-ge-SIGN.false,
      le-leb _ _ c.if-e-lt-LEAST_EXPONENT.false,
      le-leb _ _ c.if-e-gt-GREATEST_EXPONENT.false,
      ← c.power-d.ensures,
      ne_eqb _ _ c.if-s-d-ne0.true,
    )

-- a number of 53 bits over one of 22 bits or more
pub overflow_cast-result : goal.overflow_cast-result
overflow_cast-result c =
    let d = c.power-d.result in
    let l : 2 ^ 21 ≤ d = rw c.power-d.ensures (pow-le-pow_right {n = 2} (omega arith) {i = 21} (omega arith)) in
    let m : 2 ^ 32 * 2 ^ 21 ≤ 2 ^ 32 * d = mul-le-mul_left (2 ^ 32) l in
    record { fits = (div-lt_iff_lt-mul {k = d} {y = 2 ^ 32} (omega arith)).1 (omega arith) }

pub returns : goal.returns
unfolding count pick
returns c =
    rw (
      ne_eqb _ _ c.if-magnitude-eq0.false,
      lt-ltb _ _ c.if-bits-ge-SIGN.false,
      le-leb _ _ c.if-e-lt-LEAST_EXPONENT.false,
      le-leb _ _ c.if-e-gt-GREATEST_EXPONENT.false,
      ← c.power-d.ensures,
      eq-eqb _ _ c.if-s-d-ne0.false,
    )
