-- A count is the value of its double: what the bits are by IEEE 754 is that whole number.
use Rattle.std.specs.Prelude.{◌≡◌, Bool, ◌&&◌, ltb, pos, Float}
use Rattle.std.proofs.Math.Path.{refl, sym, ap}
use Rattle.std.proofs.Common.{◌∙◌, mul-one, mul_right_comm, pow-add, pow_pos}
use Rattle.std.proofs.Math.Bool.{true, false}
use Prim.Native.Nat.{ℕ, suc, ◌+◌, ◌-◌, ◌*◌, ◌/◌, ◌%◌, ◌^◌, ◌≤◌, ◌<◌}
use Rattle.std.proofs.Math.Nat.{mul_assoc, eq_of_mul-eq-mul_right, div-add-mod'}
use native.Mathlib.Omega.{arith}
use Rattle.std.proofs.Math.Dec.{eqb, leb}
use borrow.Author.Tests.{eqb-true, leb-true, ltb-true, lt-leb, ne_eqb}
use Rattle.std.specs.Float.{nan, inf, fin}
use Rattle.std.specs.Float.Ieee.{binary64, up, down, odd, of_fields, of_bits, of_int, low, prec}
use Rattle.std.specs.Float.Ieee.Fits.{of_int-fits}
use Rattle.std.specs.Float.Ieee.Bits.{of_bits-fits}
use Rattle.std.specs.Float.Ieee.Back.{round_whole, whole_unique}
use Rattle.std.specs.Float.Ieee.Exact.{HasValue, odd_sign}
use Rattle.sizes.specs.Basics.{pick}
use Rattle.counts.specs.Count.{no_count, exponent, significand, divisor, count}

-- a fraction that is a whole number
whole : (x : Float) (s : Bool) (a n d : ℕ) → 0 < d → a ≡ n * d → HasValue x s a d → HasValue x s n 1
whole nan s a n d h e v = v
whole (inf t) s a n d h e v = v
whole (fin t m k) s a n d h e v =
    let l : m * up k * 1 * d ≡ n * down k * d = rw (mul-one (m * up k)) (v.1 ∙ rw e (mul_right_comm n d (down k))) in
    (v.0, eq_of_mul-eq-mul_right d h (m * up k * 1) (n * down k) l)

-- ---- the fields of the bits

-- a double with the exponent x + 1, which is not the largest
pub normal : (s : Bool) (x t : ℕ) → x < 2046 → of_fields binary64 s (suc x) t ≡ odd (prec binary64) s (2 ^ 52 + t) x (low binary64)
unfolding of_fields
normal s x t h = rw (ne_eqb (suc x) 2047 (λ e. omega arith))

nothing : (s : Bool) → HasValue (of_fields binary64 s 0 0) s 0 1
unfolding of_fields odd
nothing s = (refl, refl)

both : (a b : Bool) → (a && b) ≡ true → (a ≡ true) × (b ≡ true)
both true b e = (refl, e)
both false b e = absurd (let z : ◌≡◌ {A = ℕ} 0 1 = cc in omega arith)

module _ (bits : ℕ) where
  pub fields : of_bits binary64 bits ≡ of_fields binary64 (leb (2 ^ 63) bits) (exponent bits) (bits % 2 ^ 52)
  unfolding of_bits
  fields = refl

  pub zero_value : bits % 2 ^ 63 ≡ 0 → HasValue (of_bits binary64 bits) (leb (2 ^ 63) bits) 0 1
  zero_value e =
      let none : exponent bits ≡ 0 = rw e in
      let empty : bits % 2 ^ 52 ≡ 0 = omega (arith, e) in
      rw (fields, none, empty) (nothing (leb (2 ^ 63) bits))

  module _ (positive : bits < 2 ^ 63) (above : 1023 ≤ exponent bits) (below : exponent bits ≤ 1054) (no_fraction : significand bits % divisor bits ≡ 0) where
    n : ℕ
    n = significand bits / divisor bits

    x : ℕ
    x = exponent bits - 1

    is : of_bits binary64 bits ≡ odd (prec binary64) false (significand bits) x (low binary64)
    unfolding x
    is =
        let e : exponent bits ≡ suc (exponent bits - 1) = omega arith in
        fields ∙ ap (λ (b : Bool). of_fields binary64 b (exponent bits) (bits % 2 ^ 52)) (lt-leb (2 ^ 63) bits positive)
        ∙ ap (λ (k : ℕ). of_fields binary64 false k (bits % 2 ^ 52)) e ∙ normal false (exponent bits - 1) (bits % 2 ^ 52) (omega arith)

    -- the significand times 2 ^ x over 2 ^ 1074 is n
    scaled : significand bits * 2 ^ x ≡ n * 2 ^ low binary64
    unfolding x n
    scaled =
        let q : significand bits ≡ n * divisor bits = omega (arith, div-add-mod' (significand bits) (divisor bits), no_fraction) in
        let s : 1075 - exponent bits + (exponent bits - 1) ≡ 1074 = omega arith in
        let d : divisor bits * 2 ^ (exponent bits - 1) ≡ 2 ^ 1074 = sym (pow-add 2 (1075 - exponent bits) (exponent bits - 1)) ∙ ap (λ (k : ℕ). 2 ^ k) s in
        ap (λ (k : ℕ). k * 2 ^ x) q ∙ mul_assoc n (divisor bits) (2 ^ x) ∙ ap (λ (k : ℕ). n * k) d

    normal_value : HasValue (of_bits binary64 bits) false (significand bits / divisor bits) 1
    unfolding n
    normal_value = whole (of_bits binary64 bits) false (significand bits * 2 ^ x) n (2 ^ low binary64) (pow_pos (low binary64)) scaled (rw is (odd_sign (prec binary64) false (significand bits) x (low binary64)))

  -- the whole number that a count is
  counted : (c : Bool) → (ltb bits (2 ^ 63) && leb 1023 (exponent bits) && leb (exponent bits) 1054 && eqb (significand bits % divisor bits) 0) ≡ c
      → pick c (significand bits / divisor bits) no_count < no_count → HasValue (of_bits binary64 bits) (leb (2 ^ 63) bits) (pick c (significand bits / divisor bits) no_count) 1
  unfolding pick
  counted true e h =
      let last = both (ltb bits (2 ^ 63) && leb 1023 (exponent bits) && leb (exponent bits) 1054) (eqb (significand bits % divisor bits) 0) e in
      let third = both (ltb bits (2 ^ 63) && leb 1023 (exponent bits)) (leb (exponent bits) 1054) last.0 in
      let first = both (ltb bits (2 ^ 63)) (leb 1023 (exponent bits)) third.0 in
      let positive = ltb-true bits (2 ^ 63) first.0 in
      rw (lt-leb (2 ^ 63) bits positive)
      (normal_value positive (leb-true 1023 (exponent bits) first.1) (leb-true (exponent bits) 1054 third.1) (eqb-true (significand bits % divisor bits) 0 last.1))
  counted false e h = absurd (omega arith)

  pub count_value : count bits < no_count → HasValue (of_bits binary64 bits) (leb (2 ^ 63) bits) (count bits) 1
  unfolding count pick
  count_value h = go (eqb (bits % 2 ^ 63) 0) refl h
    where
      v : ℕ
      v = pick (ltb bits (2 ^ 63) && leb 1023 (exponent bits) && leb (exponent bits) 1054 && eqb (significand bits % divisor bits) 0) (significand bits / divisor bits) no_count

      go : (z : Bool) → eqb (bits % 2 ^ 63) 0 ≡ z → pick z 0 v < no_count → HasValue (of_bits binary64 bits) (leb (2 ^ 63) bits) (pick z 0 v) 1
      go true e l = zero_value (eqb-true (bits % 2 ^ 63) 0 e)
      go false e l = counted _ refl l

  -- "the smallest and largest number found, as the doubles read": the double of the count is the one that was read, but for minus zero
  pub as_read : bits < 2 ^ 63 → count bits < no_count → of_bits binary64 bits ≡ of_int binary64 (pos (count bits))
  unfolding of_int
  as_read positive h =
      let v = rw (lt-leb (2 ^ 63) bits positive) at (count_value h) in
      whole_unique binary64 (of_bits binary64 bits) (of_int binary64 (pos (count bits))) false (count bits) (of_bits-fits binary64 bits) (of_int-fits binary64 (pos (count bits))) v
      (round_whole binary64 false (count bits) (omega arith))
