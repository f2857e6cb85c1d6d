-- The fewest digits of `io::decimal` are those of `decimal`, and how many they are at most.
use Rattle.std.specs.Prelude.{ℕ, suc, zero, ◌+◌, ◌-◌, ◌/◌, ◌≤◌, ◌<◌, ◌^◌, ◌≡◌, refl, Bool, true, false, cond, ltb, length}
use Rattle.std.proofs.Common.{sym, ap, arith, ltb-true, ltb-false, length-append}
use Rattle.std.proofs.Math.Nat.{pow-le-pow_right}
use Rattle.io.specs.Digits.{last_digits, IsDigitCount}
use Rattle.report.specs.Text.{places, decimal}

length_digits : (b k n : ℕ) → length (last_digits b k n) ≡ k
length_digits b zero n = refl
length_digits b (suc k) n = simp length-append (omega (arith, length_digits b k (n / b)))

-- the fewest digits of n are at most m where n is below 10 ^ m
pub most_digits : (m : ℕ) {n r : ℕ} → IsDigitCount 10 1 n r → 1 ≤ m → n < 10 ^ m → r ≤ m
most_digits m {n} {r} f lo h = by (ltb m r) refl
  where
    by : (b : Bool) → ltb m r ≡ b → r ≤ m
    by false e = ltb-false m r e
    by true e =
        let lt : m < r = ltb-true m r e in
        let up : 10 ^ m ≤ 10 ^ (r - 1) = pow-le-pow_right (omega arith) (omega arith) in
        omega (arith, f.2 (omega arith), f.1, up)

-- powers of 10 grow with the exponent
below : (k m : ℕ) {n : ℕ} → 10 ^ k ≤ n → n < 10 ^ m → k < m
below k m {n} lo h = by (ltb k m) refl
  where
    by : (b : Bool) → ltb k m ≡ b → k < m
    by true e = ltb-true k m e
    by false e =
        let up : 10 ^ m ≤ 10 ^ k = pow-le-pow_right (omega arith) (ltb-false k m e) in
        omega (arith, up)

places_is : (fuel k : ℕ) {n r : ℕ} → IsDigitCount 10 1 n r → 1 ≤ k → k ≤ r → r ≤ k + fuel → places fuel k n ≡ r
places_is zero k f lo h up = omega arith
places_is (suc fuel) k {n} {r} f lo h up = by (ltb n (10 ^ k)) refl (places_is fuel (suc k) {n = n} {r = r} f)
  where
    by : (b : Bool) → ltb n (10 ^ k) ≡ b
        → (1 ≤ suc k → suc k ≤ r → r ≤ suc k + fuel → places fuel (suc k) n ≡ r)
        → cond (ltb n (10 ^ k)) k (places fuel (suc k) n) ≡ r
    by true e ih = rw e (omega (arith, most_digits k f lo (ltb-true n (10 ^ k) e)))
    by false e ih =
        let gt : k < r = below k r (ltb-false n (10 ^ k) e) f.1 in
        rw e (ih (omega arith) (omega arith) (omega arith))

-- what `io::decimal` writes
pub is_decimal : {n r : ℕ} → IsDigitCount 10 1 n r → r ≤ 20 → last_digits 10 r n ≡ decimal n
unfolding decimal
is_decimal {n} {r} f h = ap (λ (k : ℕ). last_digits 10 k n) (sym (places_is 19 1 f (omega arith) f.0 (omega arith)))

-- a number below 10 ^ m has at most m digits
most_places : (m : ℕ) {n : ℕ} → n < 10 ^ m → (fuel k : ℕ) → k ≤ m → places fuel k n ≤ m
most_places m h zero k le = le
most_places m {n} h (suc fuel) k le = by (ltb n (10 ^ k)) refl (most_places m h fuel (suc k))
  where
    by : (b : Bool) → ltb n (10 ^ k) ≡ b → (suc k ≤ m → places fuel (suc k) n ≤ m)
        → cond (ltb n (10 ^ k)) k (places fuel (suc k) n) ≤ m
    by true e ih = rw e le
    by false e ih = rw e (ih (below k m (ltb-false n (10 ^ k) e) h))

pub length_decimal : (m n : ℕ) → 1 ≤ m → n < 10 ^ m → length (decimal n) ≤ m
unfolding decimal
length_decimal m n lo h = rw (length_digits 10 (places 19 1 n) n) (most_places m h 19 1 lo)
