use Rattle.std.proofs.Common.{◌≡◌, refl, ap, ℕ, Option, None, Some}
use Rattle.std.proofs.Math.Option.{none}
use Rattle.once.specs.Laws.Leaves.{place_of}
use Rattle.table.specs.Laws.Dims.{closed, bad_leaf}
use Rattle.table.proofs.dimension.close.Goals as goal

none_there : (o : Option ℕ) → ((x : ℕ) → o ≡ Some x → ⊥) → place_of o ≡ none
none_there None h = refl
none_there (Some x) h = absurd (h x refl)

pub returns-in-Some : goal.returns-in-Some
returns-in-Some c = bad_leaf (rw (← c.between.ensures, ← c.check_leaves-leaves.ensures.first) (ap place_of c.in-Some.is))

pub returns : goal.returns
returns c =
    closed (rw (← c.between.ensures, ← c.check_leaves-leaves.ensures.first) (none_there c.check_leaves-leaves.result.bad c.in_default.not-Some))
    (rw (← c.between.ensures, ← c.check_leaves-leaves.ensures.count) (rw (c.word.ensures, c.word-2.ensures, c.word-3.ensures) at c.put.ensures))
