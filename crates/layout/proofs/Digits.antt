-- The number that bytes spell, read byte by byte from the highest down, in either order.
use mathlib.Core.Path.{◌≡◌}
use mathlib.Core.List.{List, reverse-append}
use Prim.Native.Nat.{ℕ, suc, ◌+◌, ◌-◌, ◌*◌, ◌^◌, ◌≤◌, ◌<◌}
use native.Mathlib.Nat.{pow-le-pow_right}
use native.Mathlib.Numerals.{add-one}
use native.Mathlib.Omega.{arith}
use lib.ListN.{length, get_or, take, drop, length-drop}
use lib.Seq.{drop-cons, take-suc, get_or-drop}
use Rattle.sizes.specs.Basics.{undigit}
use Rattle.grammar.specs.Layout.{little, big, undigits}

one_more : (s : List ℕ) (p n : ℕ) → p < length s → undigit (take (suc n) (drop p s)) ≡ undigit (take n (drop (suc p) s)) * 256 + get_or s p 0
unfolding undigit
one_more s p n h = rw (drop-cons s p 0) (omega arith)

-- one byte more, below those that were read
pub more_below : (s : List ℕ) (at w i v : ℕ) → 0 < i → i ≤ w → w ≤ length s - at → v ≡ undigits little (take (w - i) (drop (at + i) s))
    → v * 256 + get_or s (at + (i - 1)) 0 ≡ undigits little (take (w - (i - 1)) (drop (at + (i - 1)) s))
unfolding undigits
more_below s at w i v h₀ h₁ h₂ e =
    let e₁ : w - (i - 1) ≡ suc (w - i) = omega arith in
    let e₂ : at + i ≡ suc (at + (i - 1)) = omega arith in
    let h : at + (i - 1) < length s = omega arith in
    let f : v ≡ undigit (take (w - i) (drop (suc (at + (i - 1))) s)) = rw e₂ at e in
    rw (e₁, one_more s (at + (i - 1)) (w - i) h, ← f)

-- one byte more, after those that were read
pub more_after : (s : List ℕ) (at w i v : ℕ) → i < w → w ≤ length s - at → v ≡ undigits big (take i (drop at s))
    → v * 256 + get_or s (at + i) 0 ≡ undigits big (take (i + 1) (drop at s))
unfolding undigits undigit
more_after s at w i v h₀ h₁ e =
    let h : i < length (drop at s) = rw length-drop (omega arith) in
    rw (add-one, take-suc (drop at s) i 0 h, reverse-append, get_or-drop, ← e) (omega arith)

-- a byte more makes the number 256 times as large at most
pub bound : (n v b : ℕ) → v < 256 ^ n → b < 256 → v * 256 + b < 256 ^ (n + 1)
bound n v b h₀ h₁ = rw add-one (omega arith)

-- a number of less than 8 bytes has room for one byte more in 64 bits
pub room : (n v : ℕ) → n < 8 → v < 256 ^ n → v < 256 ^ 7
room n v h₀ h₁ =
    let h : n ≤ 7 = omega arith in
    omega (arith, pow-le-pow_right {n = 256} (omega arith) h)
