-- The size of a font loses nothing: the float of a height has the height's value.
use Rattle.std.specs.Prelude.{◌≡◌, ℕ, suc, ◌-◌, ◌^◌, ◌≤◌, true, false, pos, negsuc, from_bits, nat_le}
use Rattle.std.proofs.Common.{arith, le-leb}
use Rattle.std.specs.Float.{binary32}
use Rattle.std.specs.Float.Ieee.{of_int}
use Rattle.std.specs.Float.Ieee.Exact.{HasValue}
use Rattle.std.specs.Float.Ieee.Fits.{of_int-fits}
use Rattle.std.specs.Float.Ieee.Bits.{of_bits-to_bits}
use Rattle.std.specs.Float.Ieee.Back.{round_whole}
use Rattle.sizes.specs.Basics.{pick}
use Rattle.store.specs.Values.{twos}
use Rattle.styles.specs.Styles.{size}

-- a height from 1 to 1,000,000 (02, T-12), which is that of the size -1 to -1,000,000
pub size_exact : (n : ℕ) → suc n ≤ 1000000 → HasValue (from_bits binary32 (size (twos (negsuc n)))) false (suc n) 1
unfolding size of_int pick
size_exact n h =
    let big : nat_le (2 ^ 31) (0xffffffff - n) ≡ true = le-leb (2 ^ 31) (0xffffffff - n) (omega arith) in
    let e : 2 ^ 32 - (0xffffffff - n) ≡ suc n = omega arith in
    rw (big, e)
    (rw (of_bits-to_bits binary32 (of_int binary32 (pos (suc n))) (of_int-fits binary32 (pos (suc n)))) (round_whole binary32 false (suc n) (omega arith)))
