-- The rows that fit lie within the bytes that are left.
use mathlib.Core.Path.{◌≡◌, refl}
use mathlib.Core.Bool.{Bool, true, false}
use mathlib.Core.List.{List}
use Prim.Native.Nat.{ℕ, ◌-◌, ◌*◌, ◌/◌, ◌≤◌, min}
use native.Mathlib.Nat.{div-mul-le_self, mul-le-mul_right, le_trans, min-le_right}
use native.Mathlib.Omega.{arith}
use lib.ListN.{length}
use lib.Dec.{eqb}
use borrow.Author.Tests.{eqb-true}
use Rattle.std.specs.Prelude.{Ok}
use Rattle.sizes.specs.Basics.{pick}
use Rattle.layout.specs.Reads.{fitting}

pub fitting_room : (size n : ℕ) (s : List ℕ) (at : ℕ) → fitting size n s (Ok at) * size ≤ length s - at
unfolding fitting pick
fitting_room size n s at = go (eqb size 0) refl
  where
    go : (c : Bool) → eqb size 0 ≡ c → pick c n (min n ((length s - at) / size)) * size ≤ length s - at
    go true e = let z : size ≡ 0 = eqb-true size 0 e in rw z (omega arith)
    go false e =
        let q = (length s - at) / size in
        le_trans (mul-le-mul_right size (min-le_right n q)) (div-mul-le_self (length s - at) size)
