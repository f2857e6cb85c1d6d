-- T-05: "the double code minus bias" is exact: the difference of two whole numbers up to 2 ^ 53, as doubles, is the double of their difference.
use Rattle.std.proofs.Math.Path.{◌≡◌, refl}
use Rattle.std.proofs.Common.{ap, ◌∙◌, mul-pos}
use Rattle.std.specs.Prelude.{Bool, not, T, pos, Float}
use Rattle.std.proofs.Math.Bool.{true, false}
use Prim.Native.Nat.{ℕ, suc, ◌+◌, ◌-◌, ◌*◌, ◌^◌, ◌≤◌, ◌<◌}
use native.Mathlib.Omega.{arith}
use Rattle.std.proofs.Math.Dec.{ltb}
use borrow.Author.Tests.{ltb-true, ltb-false, lt-ltb, le-ltb, le-leb, lt-leb}
use Rattle.std.specs.Float.Ieee.{nan, binary64, up, down, minus, prec, round, neg, add, sum, sub, of_int, to_bits, is_nan}
use Rattle.std.specs.Float.{inf, fin, Format}
use Rattle.std.specs.Float.Ieee.Exact.{HasValue}
use Rattle.std.specs.Float.Ieee.Fits.{down_pos}
use Rattle.std.specs.Float.Ieee.Back.{round_whole}
use Rattle.std.specs.Float.Ieee.Scale.{round_same}
use Rattle.sizes.specs.Basics.{le}
use Rattle.case_stream.specs.Stream.{difference, double, zeros}

module _ (f : Format) where
  -- a fraction whose denominator divides out
  round_over : (s : Bool) (k d : ℕ) → 0 < d → round f s (k * d) d ≡ round f s k 1
  round_over s k d h = round_same f s (k * d) d k 1 h (omega arith) (omega arith)

  less_by : (a k d : ℕ) → 0 < d → sum f false (a * d) true ((a + suc k) * d) d ≡ round f true (suc k) 1
  unfolding sum
  less_by a k d h =
      let b = (a + suc k) * d in
      let t : ltb (a * d) b ≡ true = lt-ltb (a * d) b (omega arith) in
      let e : b - a * d ≡ suc k * d = omega arith in
      rw (t, e) (round_over true (suc k) d h)

  more_by : (b k d : ℕ) → 0 < d → sum f false ((b + k) * d) true (b * d) d ≡ round f false k 1
  unfolding sum
  more_by b k d h =
      let a = (b + k) * d in
      let t : ltb a (b * d) ≡ false = le-ltb a (b * d) (omega arith) in
      let e : a - b * d ≡ k * d = omega arith in
      rw (t, e) (round_over false k d h)

  sum_whole : (a b d : ℕ) → 0 < d → sum f false (a * d) true (b * d) d ≡ of_int f (minus a b)
  unfolding of_int
  sum_whole a b d h = by (ltb a b) refl
    where
      by : (t : Bool) → ltb a b ≡ t → sum f false (a * d) true (b * d) d ≡ of_int f (minus a b)
      by true t =
          let l = ltb-true a b t in
          let e : a + suc (b - suc a) ≡ b = omega arith in
          rw (lt-leb b a l) (rw e at (less_by a (b - suc a) d h))
      by false t =
          let l = ltb-false a b t in
          let e : b + (a - b) ≡ a = omega arith in
          rw (le-leb b a l) (rw e at (more_by b (a - b) d h))

  sub_values : (x y : Float) (a b : ℕ) → HasValue x false a 1 → HasValue y false b 1 → sub f x y ≡ of_int f (minus a b)
  unfolding sub add neg
  sub_values nan y a b h k = absurd h
  sub_values (inf s) y a b h k = absurd h
  sub_values (fin s m e) nan a b h k = absurd k
  sub_values (fin s m e) (inf t) a b h k = absurd k
  sub_values (fin true m e) (fin t m' e') a b h k = let z : ◌≡◌ {A = ℕ} 0 1 = cc in absurd (omega arith)
  sub_values (fin false m e) (fin true m' e') a b h k = let z : ◌≡◌ {A = ℕ} 0 1 = cc in absurd (omega arith)
  sub_values (fin false m e) (fin false m' e') a b h k =
      let h' : m * up e ≡ a * down e = omega (arith, h.1) in
      let k' : m' * up e' ≡ b * down e' = omega (arith, k.1) in
      let p : m * up e * down e' ≡ a * (down e * down e') = rw h' (omega arith) in
      let q : m' * up e' * down e ≡ b * (down e * down e') = rw k' (omega arith) in
      rw (p, q) (sum_whole a b (down e * down e') (mul-pos (down_pos e) (down_pos e')))

  pub sub_whole : (a b : ℕ) → a ≤ 2 ^ prec f → b ≤ 2 ^ prec f → sub f (of_int f (pos a)) (of_int f (pos b)) ≡ of_int f (minus a b)
  unfolding of_int
  sub_whole a b h k = sub_values (round f false a 1) (round f false b 1) a b (round_whole f false a h) (round_whole f false b k)

-- ---- doubles

module _ (code bias : ℕ) (small : code ≤ 2 ^ 53) (small' : bias ≤ 2 ^ 53) where
  -- the bytes of the double of the whole number code - bias
  pub double_is : double code bias ≡ le 8 (to_bits binary64 (of_int binary64 (minus code bias)))
  unfolding double
  double_is = rw (sub_whole binary64 code bias small small')

  -- its sign and its size, with nothing lost
  pub above : bias ≤ code → HasValue (difference code bias) false (code - bias) 1
  unfolding of_int
  above h = rw (sub_whole binary64 code bias small small', le-leb bias code h) (round_whole binary64 false (code - bias) (omega arith))

  pub below : code < bias → HasValue (difference code bias) true (bias - code) 1
  unfolding of_int
  below h =
      let e : suc (bias - suc code) ≡ bias - code = omega arith in
      rw (sub_whole binary64 code bias small small', lt-leb bias code h) (rw e (round_whole binary64 true (bias - code) (omega arith)))

  value_not_nan : (x : Float) (s : Bool) (n : ℕ) → HasValue x s n 1 → T (not (is_nan x))
  unfolding is_nan
  value_not_nan nan s n h = absurd h
  value_not_nan (inf t) s n h = tt
  value_not_nan (fin t m e) s n h = tt

  pub not_nan : T (not (is_nan (difference code bias)))
  not_nan = by (ltb code bias) refl
    where
      by : (t : Bool) → ltb code bias ≡ t → T (not (is_nan (difference code bias)))
      by true t = value_not_nan _ true (bias - code) (below (ltb-true code bias t))
      by false t = value_not_nan _ false (code - bias) (above (ltb-false code bias t))

-- code = bias is +0
pub double_zero : (bias : ℕ) → bias ≤ 2 ^ 53 → double bias bias ≡ zeros
unfolding le of_int to_bits
double_zero bias h =
    let e : minus bias bias ≡ pos 0 = rw (le-leb bias bias (omega arith)) (ap pos (omega arith)) in
    double_is bias bias h h ∙ rw e
