-- Products as far as a limit.
use mathlib.Core.Path.{◌≡◌, refl, sym, ◌∙◌}
use mathlib.Core.Bool.{Bool, true, false}
use mathlib.Core.List.{List, [], ◌∷◌}
use Prim.Native.Nat.{ℕ, zero, suc, ◌*◌, ◌≤◌, min}
use native.Mathlib.Nat.{min-eq_left, min-eq_right, mul-zero, mul-one, mul_assoc, mul-le-mul_left, mul-le-mul_right}
use native.Mathlib.Omega.{arith}
use borrow.Author.Tests.{leb-true, leb-false}
use lib.Dec.{leb}
use Rattle.grammar.specs.Index.{product}

by_size : (l a n : ℕ) (b : Bool) → leb a l ≡ b → min (min a l * n) l ≡ min (a * n) l
by_size l a n true e = rw (min-eq_left (leb-true a l e))
by_size l a zero false e = simp mul-zero
by_size l a (suc m) false e =
    let h : l ≤ a = omega (arith, leb-false a l e) in
    let p : l * 1 ≤ l * suc m = mul-le-mul_left l (omega arith) in
    let g : l ≤ l * suc m = rw mul-one at p in
    let q : l * suc m ≤ a * suc m = mul-le-mul_right (suc m) h in
    let r : l ≤ a * suc m = omega arith in
    rw (min-eq_right h, min-eq_right g, min-eq_right r)

-- a product of which one factor was cut off at the limit, itself cut off there
pub capped : (l a n : ℕ) → min (min a l * n) l ≡ min (a * n) l
capped l a n = by_size l a n (leb a l) refl

-- one factor more is taken from those that are left, where r is the whole product cut off at the limit
pub more : (l p : ℕ) {q w n r : ℕ} {ns rest : List ℕ} → q ≡ min (p * w) l → w ≡ n → ns ≡ n ∷ rest → min (p * product ns) l ≡ r
    → min (q * product rest) l ≡ r
unfolding product
more l p {q} {w} {n} {r} {ns} {rest} e e' s i =
    rw (e, e') (capped l (p * n) (product rest) ∙ rw (mul_assoc p n (product rest)) (rw s at i))

-- none is left
pub no_more : (l p : ℕ) {r : ℕ} {ns : List ℕ} → ns ≡ [] → p ≤ l → min (p * product ns) l ≡ r → p ≡ r
unfolding product
no_more l p e h i = sym (min-eq_left h) ∙ (rw (e, mul-one p) at i)
