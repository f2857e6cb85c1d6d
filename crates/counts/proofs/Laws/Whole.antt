-- The other half of Value.antt: every double that is a whole number from 0 to 4,294,967,295 has that count.
use Rattle.std.specs.Prelude.{◌≡◌, Bool}
use Rattle.std.proofs.Math.Path.{refl}
use Rattle.std.proofs.Common.{◌∙◌, mul-one, arith}
use Rattle.std.proofs.Math.Bool.{true, false}
use Prim.Native.Nat.{ℕ, zero, suc, ◌%◌, ◌^◌, ◌<◌}
use Rattle.std.proofs.Math.Dec.{eqb, leb}
use borrow.Author.Tests.{eqb-true, eqb-false, leb-true, leb-false}
use Rattle.std.specs.Float.Ieee.{binary64, of_bits}
use Rattle.std.specs.Float.Ieee.Exact.{HasValue}
use Rattle.sizes.specs.Basics.{pick}
use Rattle.counts.specs.Count.{no_count, exponent, count}
use Rattle.counts.proofs.Laws.Value.{zero_value}
use Rattle.counts.proofs.Laws.Normal.{same_size, no_leading_one, no_number, counts_normal}

module _ (bits n : ℕ) (few : n < no_count) (positive : bits < 2 ^ 63) (v : HasValue (of_bits binary64 bits) false n 1) where
  -- a double from 0 to 4,294,967,295 that is a whole number has that count
  pub whole_counts : count bits ≡ n
  unfolding count pick
  whole_counts = go (eqb (bits % 2 ^ 63) 0) refl
    where
      by_exponent : eqb (bits % 2 ^ 63) 0 ≡ false → (x : ℕ) → exponent bits ≡ x → (b : Bool) → leb x 2046 ≡ b → count bits ≡ n
      by_exponent z zero e b t = absurd (no_leading_one bits n few positive v e (omega (arith, eqb-false (bits % 2 ^ 63) 0 z, e)))
      by_exponent z (suc y) e true t = counts_normal bits n few positive v y e (omega (arith, leb-true (suc y) 2046 t)) z
      by_exponent z (suc y) e false t = absurd (no_number bits n few positive v (omega (arith, leb-false (suc y) 2046 t, e)))

      go : (z : Bool) → eqb (bits % 2 ^ 63) 0 ≡ z → count bits ≡ n
      go true z = rw z (same_size (of_bits binary64 bits) (leb (2 ^ 63) bits) false 0 1 n 1 (zero_value bits (eqb-true (bits % 2 ^ 63) 0 z)) v ∙ mul-one n)
      go false z = by_exponent z (exponent bits) refl (leb (exponent bits) 2046) refl

-- "minus zero is 0"
pub minus_zero : count (2 ^ 63) ≡ 0
unfolding count pick
minus_zero = refl
