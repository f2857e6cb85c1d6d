-- A positive double that is a whole number below 2 ^ 32, by its fields: without a leading 1, with the largest exponent, and with any other.
use Rattle.std.specs.Prelude.{◌≡◌, Bool, cond, ℤ, pos, negsuc, Float}
use Rattle.std.proofs.Math.Path.{refl, ap}
use Rattle.std.proofs.Common.{sym, ◌∙◌, mul-one, mul_assoc, mul_right_comm, mul-pos, suc-mul, mul-le-mul_right, arith, pow-add, pow_pos, shl_lt}
use Rattle.std.proofs.Math.Bool.{true, false}
use Prim.Native.Nat.{ℕ, zero, suc, ◌+◌, ◌-◌, ◌*◌, ◌/◌, ◌%◌, ◌^◌, ◌≤◌, ◌<◌}
use Rattle.std.proofs.Math.Nat.{eq_of_mul-eq-mul_right, mul-mod_left, mul-div_cancel, pow-le-pow_right}
use Rattle.std.proofs.Math.Dec.{eqb, leb}
use borrow.Author.Tests.{eq-eqb, le-leb, lt-ltb, leb-true, leb-false}
use Rattle.std.specs.Float.{nan, inf, fin}
use Rattle.std.specs.Float.Ieee.{binary64, up, down, odd, of_fields, of_bits, low, prec}
use Rattle.std.specs.Float.Ieee.Exact.{HasValue, odd_sign}
use Rattle.sizes.specs.Basics.{pick}
use Rattle.counts.specs.Count.{no_count, exponent, significand, divisor, count}
use Rattle.counts.proofs.Laws.Value.{fields, normal}

-- ---- numbers of the form s * 2 ^ x over 2 ^ l

down_pos : (k : ℤ) → 0 < down k
down_pos (pos k) = omega arith
down_pos (negsuc k) = pow_pos (suc k)

-- a finite value is one number, however it is written as a fraction
pub same_size : (x : Float) (s t : Bool) (a c b d : ℕ) → HasValue x s a c → HasValue x t b d → a * d ≡ b * c
same_size nan s t a c b d v w = absurd v
same_size (inf u) s t a c b d v w = absurd v
same_size (fin u m k) s t a c b d v w =
    eq_of_mul-eq-mul_right (down k) (down_pos k) (a * d) (b * c)
    (mul_right_comm a d (down k) ∙ ap (λ (z : ℕ). z * d) (sym v.1) ∙ mul_right_comm (m * up k) c d ∙ ap (λ (z : ℕ). z * c) w.1 ∙ mul_right_comm b (down k) c)

-- above 0 and below 1
too_small : (s x n l : ℕ) → 0 < s → s < 2 ^ 53 → 53 + x ≤ l → s * 2 ^ x ≡ n * 2 ^ l → ⊥
too_small s x zero l p h e q = omega (arith, mul-pos p (pow_pos x), q)
too_small s x (suc n) l p h e q = omega (arith, shl_lt 53 x h, pow-le-pow_right {n = 2} (omega arith) e, suc-mul n (2 ^ l), q)

-- 2 ^ 32 and above
too_large : (s x n l : ℕ) → 2 ^ 52 ≤ s → n < 2 ^ 32 → 32 + l ≤ 52 + x → s * 2 ^ x ≡ n * 2 ^ l → ⊥
too_large s x n l p h e q = omega (arith, shl_lt 32 l h, pow-le-pow_right {n = 2} (omega arith) e, mul-le-mul_right (2 ^ x) p, pow-add 2 52 x, q)

-- ---- a positive double that is the whole number n

module _ (bits n : ℕ) (few : n < no_count) (positive : bits < 2 ^ 63) (v : HasValue (of_bits binary64 bits) false n 1) where
  -- what it is by its fields is n too
  is_n : (x : Float) (s : Bool) (a : ℕ) → of_bits binary64 bits ≡ x → HasValue x s a (2 ^ low binary64) → a ≡ n * 2 ^ low binary64
  is_n x s a e w = sym (mul-one a) ∙ same_size x s false a (2 ^ low binary64) n 1 w (rw e at v)

  -- without a leading 1 a fraction is 0, or too small
  pub no_leading_one : exponent bits ≡ 0 → 0 < bits % 2 ^ 52 → ⊥
  unfolding of_fields
  no_leading_one e p =
      let f : of_bits binary64 bits ≡ odd (prec binary64) (leb (2 ^ 63) bits) (bits % 2 ^ 52) 0 (low binary64) = fields bits ∙ ap (λ (k : ℕ). of_fields binary64 (leb (2 ^ 63) bits) k (bits % 2 ^ 52)) e in
      too_small (bits % 2 ^ 52) 0 n (low binary64) p (omega arith) (omega arith) (is_n _ _ _ f (odd_sign (prec binary64) (leb (2 ^ 63) bits) (bits % 2 ^ 52) 0 (low binary64)))

  -- the largest exponent is no number's
  pub no_number : exponent bits ≡ 2047 → ⊥
  unfolding of_fields
  no_number e =
      let f : of_bits binary64 bits ≡ of_fields binary64 (leb (2 ^ 63) bits) 2047 (bits % 2 ^ 52) = fields bits ∙ ap (λ (k : ℕ). of_fields binary64 (leb (2 ^ 63) bits) k (bits % 2 ^ 52)) e in
      go (eqb (bits % 2 ^ 52) 0) (rw f at v)
    where
      go : (b : Bool) → HasValue (cond b (inf (leb (2 ^ 63) bits)) nan) false n 1 → ⊥
      go true w = w
      go false w = w

  module _ (y : ℕ) (e : exponent bits ≡ suc y) (most : y < 2046) where
    -- the significand times 2 ^ y over 2 ^ 1074 is n
    scaled : significand bits * 2 ^ y ≡ n * 2 ^ low binary64
    scaled =
        let f = fields bits ∙ ap (λ (k : ℕ). of_fields binary64 (leb (2 ^ 63) bits) k (bits % 2 ^ 52)) e ∙ normal (leb (2 ^ 63) bits) y (bits % 2 ^ 52) most in
        is_n _ _ _ f (odd_sign (prec binary64) (leb (2 ^ 63) bits) (significand bits) y (low binary64))

    above : 1022 ≤ y
    above = by_test (leb 1022 y) refl
      where
        by_test : (b : Bool) → leb 1022 y ≡ b → 1022 ≤ y
        by_test true t = leb-true 1022 y t
        by_test false t = absurd (too_small (significand bits) y n (low binary64) (omega arith) (omega arith) (omega (arith, leb-false 1022 y t)) scaled)

    below : y ≤ 1053
    below = by_test (leb y 1053) refl
      where
        by_test : (b : Bool) → leb y 1053 ≡ b → y ≤ 1053
        by_test true t = leb-true y 1053 t
        by_test false t = absurd (too_large (significand bits) y n (low binary64) (omega arith) few (omega (arith, leb-false y 1053 t)) scaled)

    -- and so the significand is n times the divisor
    multiple : significand bits ≡ n * divisor bits
    multiple =
        let s : 1075 - exponent bits + y ≡ 1074 = omega (arith, e, below) in
        let d : divisor bits * 2 ^ y ≡ 2 ^ 1074 = sym (pow-add 2 (1075 - exponent bits) y) ∙ ap (λ (k : ℕ). 2 ^ k) s in
        eq_of_mul-eq-mul_right (2 ^ y) (pow_pos y) (significand bits) (n * divisor bits) (scaled ∙ ap (λ (k : ℕ). n * k) (sym d) ∙ sym (mul_assoc n (divisor bits) (2 ^ y)))

    pub counts_normal : eqb (bits % 2 ^ 63) 0 ≡ false → count bits ≡ n
    unfolding count pick
    counts_normal z =
        let whole : significand bits % divisor bits ≡ 0 = ap (λ (k : ℕ). k % divisor bits) multiple ∙ mul-mod_left n (divisor bits) in
        let quotient : significand bits / divisor bits ≡ n = ap (λ (k : ℕ). k / divisor bits) multiple ∙ mul-div_cancel n (pow_pos (1075 - exponent bits)) in
        rw (z, lt-ltb bits (2 ^ 63) positive, le-leb 1023 (exponent bits) (omega (arith, e, above)), le-leb (exponent bits) 1054 (omega (arith, e, below)), eq-eqb (significand bits % divisor bits) 0 whole) quotient
