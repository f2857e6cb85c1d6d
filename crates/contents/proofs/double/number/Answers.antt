-- Above the pattern of the infinity, without its sign, are the NaNs.
use Rattle.std.proofs.lemmas.Bool.{le-leb, lt-leb}
use mathlib.Core.Path.{◌≡◌, ◌∙◌}
use mathlib.Core.Bool.{true, false}
use Prim.Native.Nat.{ℕ, ◌*◌, ◌%◌, ◌^◌}
use lib.Dec.{leb}
use lib.Ieee.{binary64, nan_bits}
use lib.Ieee.Bits.{nan_bits_above}
use borrow.Author.Tests.{leb-true, leb-false, le-ltb, lt-ltb}
use Rattle.sizes.specs.Basics.{pick}
use Rattle.contents.specs.Number.{number_of}
use Rattle.contents.proofs.double.number.Goals as goal

abbrev infinity : ℕ
infinity = 2047 * 2 ^ 52

no_nan : (bits : ℕ) → leb (bits % 2 ^ 63) infinity ≡ true → nan_bits binary64 bits ≡ false
no_nan bits h = nan_bits_above binary64 bits ∙ le-ltb infinity (bits % 2 ^ 63) (leb-true (bits % 2 ^ 63) infinity h)

a-nan : (bits : ℕ) → leb (bits % 2 ^ 63) infinity ≡ false → nan_bits binary64 bits ≡ true
a-nan bits h = nan_bits_above binary64 bits ∙ lt-ltb infinity (bits % 2 ^ 63) (leb-false (bits % 2 ^ 63) infinity h)

pub float_from_bits-result : goal.float_from_bits-result
unfolding number_of pick
float_from_bits-result c = rw (no_nan c.args.bits (le-leb _ _ c.if-magnitude-le-INFINITY.true)) tt

pub returns-then-magnitude-le-INFINITY : goal.returns-then-magnitude-le-INFINITY
unfolding number_of pick
returns-then-magnitude-le-INFINITY c = rw (no_nan c.args.bits (le-leb _ _ c.if-magnitude-le-INFINITY.true))

pub returns-else-magnitude-le-INFINITY : goal.returns-else-magnitude-le-INFINITY
unfolding number_of pick
returns-else-magnitude-le-INFINITY c = rw (a-nan c.args.bits (lt-leb _ _ c.if-magnitude-le-INFINITY.false))
