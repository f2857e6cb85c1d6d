-- What a test that came out true or false says.
use Rattle.std.specs.Prelude.{◌≡◌, refl, Bool, true, false, ◌&&◌, ◌||◌, ℕ, eqb}
use Rattle.std.proofs.Common.{sym, ne_eqb}
use Rattle.std.proofs.lemmas.Bool.{false≢true, eqb-false}

pub or_is_false : (a b : Bool) → (a || b) ≡ false → (a ≡ false) × (b ≡ false)
or_is_false true b e = absurd (false≢true (sym e))
or_is_false false b e = (refl, e)

pub and_is_true : (a b : Bool) → (a && b) ≡ true → (a ≡ true) × (b ≡ true)
and_is_true true b e = (refl, e)
and_is_true false b e = absurd (false≢true e)

pub eqb_turned : (x y : ℕ) → eqb x y ≡ false → eqb y x ≡ false
eqb_turned x y e = ne_eqb y x (λ q. eqb-false x y e (sym q))
