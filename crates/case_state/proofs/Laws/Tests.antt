-- A test that two things hold.
use Rattle.std.specs.Prelude.{◌≡◌, refl, Bool, true, false}
use Rattle.sizes.specs.Basics.{pick}

pub both : (a b : Bool) → pick a b false ≡ true → (a ≡ true) × (b ≡ true)
unfolding pick
both true b e = (refl, e)
both false b e = (e, cc)
