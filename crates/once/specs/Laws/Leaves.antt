-- What one pass over the leaves finds.
use Rattle.std.specs.Prelude.{◌≡◌, List, [], ℕ, min, length, Option, None, Some}
use Rattle.std.proofs.Math.Option as spec
use Rattle.sizes.specs.Sizes.{most_nodes}
use Rattle.grammar.specs.Once.{Leaf, first_bad}

-- the place of the bad leaf that the code gives, as definitions have it
abbrev pub place_of : Option ℕ → spec.Option ℕ
place_of None = spec.none
place_of (Some p) = spec.some p

-- how many leaves there are, and whether their indexes are below that number and stand once each; a number of leaves above the most nodes
-- counts as that
pub record LeavesAre (ls : List Leaf) (n : ℕ) (bad : Option ℕ) : Type 0 where
  pub count : n ≡ length ls
  pub first : place_of bad ≡ first_bad (min (length ls) most_nodes) [] ls
