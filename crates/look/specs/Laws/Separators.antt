-- A separator from its fields: so two that have the same fields are the same.
use Rattle.std.specs.Prelude.{◌≡◌, refl, Bool, true, false, List, [], ◌∷◌, ℕ, zero, suc, eqb}
use Rattle.store.specs.Fields.{Fields}
use Rattle.look.specs.declared.Separator.{Separator}
use Rattle.look.specs.declared.Separator.TheVariants.{NotDrawn, Drawn}
use Rattle.look.specs.Look as grammar
use Rattle.look.specs.Values as values

separator_if : (b : Bool) → Fields (grammar.SeparatorIf b) → Separator
separator_if true f = Drawn f.0.0.1.0 f.0.1.0 f.1.0
separator_if false f = NotDrawn

pub separator_of : Fields grammar.Separator → Separator
separator_of f = separator_if (eqb f.0 1) f.1

pub separator_back : (x : Separator) → separator_of (values.separator x) ≡ x
unfolding separator_of separator_if
separator_back NotDrawn = refl
separator_back (Drawn c s w) = refl

-- the one at an index of a group
unfoldable pub separator_at : ℕ → List (Fields grammar.Separator) → Separator
separator_at n [] = NotDrawn
separator_at zero (f ∷ fs) = separator_of f
separator_at (suc n) (f ∷ fs) = separator_at n fs
