-- The height of a font by its size, and by the size's 32 bits.
use Rattle.std.proofs.Common.{◌≡◌, refl, ◌-◌, ◌^◌, ℕ, ℤ, pos, negsuc, Result, Ok, Err, arith, w32, SFits, le-leb}
use borrow.Author.Tests.{lt-leb}
use Rattle.std.specs.Result.{result_unwrap_or}
use Rattle.refusals.specs.declared.Refusal.{Refusal}
use Rattle.sizes.specs.Basics.{pick}
use Rattle.store.specs.Values.{twos}
use Rattle.units.specs.Units as units
use Rattle.styles.specs.Styles.{height}

pub height_or : (r : Result ℕ Refusal) → result_unwrap_or r 0 ≡ (units.height_of r).value
height_or (Ok n) = refl
height_or (Err e) = refl

pub height_same : (z : ℤ) → SFits w32 z → (units.height z).value ≡ height (twos z)
unfolding pick
height_same (pos n) f = rw (lt-leb (2 ^ 31) n (omega (arith, f.sfits)))
height_same (negsuc n) f = rw (le-leb (2 ^ 31) (0xffffffff - n) (omega (arith, f.sfits))) (omega (arith, f.sfits))
