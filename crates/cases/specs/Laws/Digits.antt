-- Bytes as a number, one more of them at the end.
use Rattle.std.specs.Prelude.{◌≡◌, [], ◌∷◌, ◌++◌, ℕ, zero, suc, ◌+◌, ◌*◌, ◌/◌, ◌%◌, ◌^◌, ◌≤◌, ◌<◌, min}
use Rattle.std.proofs.Common.{pow-suc, mul-le-mul_right, add-one, arith}
use Rattle.std.proofs.Math.Nat.{pow-le-pow_right}
use Rattle.sizes.specs.Basics.{le}

pub le_snoc : (w x b : ℕ) → x < 256 ^ w → b < 256 → le (suc w) (x + b * 256 ^ w) ≡ le w x ++ b ∷ []
unfolding le
le_snoc zero x b h k =
    let e : (x + b * 1) % 256 ≡ b = omega arith in
    rw e
le_snoc (suc w) x b h k =
    let p : x < 256 ^ w * 256 = rw pow-suc at h in
    let q : b * 256 ^ suc w ≡ b * 256 ^ w * 256 = rw pow-suc (omega arith) in
    let low : (x + b * 256 ^ w * 256) % 256 ≡ x % 256 = omega arith in
    let high : (x + b * 256 ^ w * 256) / 256 ≡ x / 256 + b * 256 ^ w = omega arith in
    rw (q, low, high, le_snoc w (x / 256) b (omega arith) k)

pub snoc_in : (w x b : ℕ) → x < 256 ^ w → b < 256 → x + b * 256 ^ w < 256 ^ (w + 1)
snoc_in w x b h k =
    let l : b ≤ 255 = omega arith in
    let q : b * 256 ^ w ≤ 255 * 256 ^ w = mul-le-mul_right (256 ^ w) l in
    rw (add-one, pow-suc) (omega arith)

pub power_in : (w : ℕ) → w ≤ 8 → 256 ^ w ≤ 2 ^ 64
power_in w h = let l : 0 < 256 = omega arith in pow-le-pow_right l h

pub small_power : {n p : ℕ} → n < 8 → p ≡ 256 ^ min n 7 → p ≡ 256 ^ n
small_power {n} h e = let same : min n 7 ≡ n = omega arith in rw same at e

pub byte_in : (l x b : ℕ) → l < 8 → x < 256 ^ l → b < 256 → x + b * 256 ^ l < 2 ^ 64
byte_in l x b h k q = let m : l + 1 ≤ 8 = omega arith in omega (arith, snoc_in l x b k q, power_in (l + 1) m)
