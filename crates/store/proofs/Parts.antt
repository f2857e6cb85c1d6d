-- Bytes that were copied into a buffer from a position on, and the bytes of a number.
use mathlib.Core.Path.{◌≡◌, refl, ap}
use mathlib.Core.List.{List, ◌∷◌, reverse}
use Prim.Native.Nat.{ℕ, zero, suc, ◌+◌, ◌-◌, ◌/◌, ◌%◌, ◌≤◌}
use native.Mathlib.Omega.{arith}
use lib.ListN.{length, take, drop}
use lib.Seq.{drop-drop}
use borrow.Rule.Slice.PartMut.{put_mid}
use Rattle.std.specs.Int.{w64, to_le_bytes, to_be_bytes}
use Rattle.std.proofs.Math.Nat.{div-div-eq-div-mul}
use Rattle.sizes.specs.Basics.{le}
use Rattle.grammar.specs.Layout.{little, big, digits}
use Rattle.store.specs.Put.{stored}

pub put_all : (b : List ℕ) (at : ℕ) (xs ys : List ℕ) → at + length xs ≤ length b → ys ≡ xs
    → put_mid at (at + length xs - at) b ys ≡ stored b at xs
unfolding stored
put_all b at xs ys h e =
    let k : at + length xs - at ≡ length xs = omega arith in
    rw (k, e, drop-drop)

-- of the eight bytes of a number the first w, lowest first, or the last w, highest first
pub le_bytes_are : (v : ℕ) → to_le_bytes w64 v ≡ le 8 v
unfolding le
le_bytes_are v = simp div-div-eq-div-mul

pub be_bytes_are : (v : ℕ) → to_be_bytes w64 v ≡ reverse (le 8 v)
unfolding le
be_bytes_are v = simp div-div-eq-div-mul

pub low_bytes : (w v : ℕ) → w ≤ 8 → take w (le 8 v) ≡ digits little w v
unfolding digits le
low_bytes w v h = take_le w 8 v h
  where
    take_le : (w n v : ℕ) → w ≤ n → take w (le n v) ≡ le w v
    take_le zero n v h = refl
    take_le (suc w) zero v h = absurd (omega arith)
    take_le (suc w) (suc n) v h = ap (λ (xs : List ℕ). v % 256 ∷ xs) (take_le w n (v / 256) (omega arith))

pub high_bytes : (w v : ℕ) → w ≤ 8 → take (8 - (8 - w)) (drop (8 - w) (reverse (le 8 v))) ≡ digits big w v
unfolding digits le
high_bytes zero v h = refl
high_bytes (suc zero) v h = refl
high_bytes (suc (suc zero)) v h = refl
high_bytes (suc (suc (suc zero))) v h = refl
high_bytes (suc (suc (suc (suc zero)))) v h = refl
high_bytes (suc (suc (suc (suc (suc zero))))) v h = refl
high_bytes (suc (suc (suc (suc (suc (suc zero)))))) v h = refl
high_bytes (suc (suc (suc (suc (suc (suc (suc zero))))))) v h = refl
high_bytes (suc (suc (suc (suc (suc (suc (suc (suc zero)))))))) v h = refl
high_bytes (suc (suc (suc (suc (suc (suc (suc (suc (suc w))))))))) v h = absurd (omega arith)
