-- The loop keeps the product in all, as far as one too large: p times the n that are left.
use Rattle.std.proofs.Common.{◌≡◌, ◌+◌, ◌*◌, ◌≤◌, min, drop}
use Rattle.sizes.specs.Sizes.{most_places}
use Rattle.grammar.specs.Index.{product}
use Rattle.position.proofs.places.Given as goal

abbrev pub invariant-loop-n : goal.invariant-loop-n
invariant-loop-n l = (l.p ≤ most_places + 1) × (min (l.p * product (drop l.n-index l.ns)) (most_places + 1) ≡ min (product l.ns) (most_places + 1))
