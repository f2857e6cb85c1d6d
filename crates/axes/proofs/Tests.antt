-- The test of a number against those before it, as the code has it.
use mathlib.Core.Path.{◌≡◌}
use mathlib.Core.Bool.{Bool, true, false, not}
use mathlib.Core.List.{List}
use Prim.Native.Nat.{ℕ}
use lib.Dec.{ltb}
use Rattle.sizes.specs.Basics.{among}
use Rattle.grammar.specs.Once.{fresh}

pub fresh_below : (n x : ℕ) (seen : List ℕ) {b : Bool} → ltb x n ≡ true → b ≡ among x seen → not b ≡ fresh n seen x
unfolding fresh
fresh_below n x seen e f = rw (e, f)

pub fresh_above : (n x : ℕ) (seen : List ℕ) → ltb x n ≡ false → false ≡ fresh n seen x
unfolding fresh
fresh_above n x seen e = rw e
