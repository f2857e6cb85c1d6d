-- The loop keeps the product in all, as far as one too large: p times the n of the dimensions that are left.
use Rattle.std.proofs.Common.{◌≡◌, ◌+◌, ◌*◌, ◌≤◌, min, map, drop}
use Rattle.sizes.specs.Sizes.{most_places}
use Rattle.grammar.specs.RecordWords.{word}
use Rattle.grammar.specs.Index.{product}
use Rattle.position.proofs.span.Given as goal

abbrev pub invariant-loop-e : goal.invariant-loop-e
invariant-loop-e l =
    (l.p ≤ most_places + 1) × (min (l.p * product (map (word l.ns) (drop l.e-index l.axis))) (most_places + 1) ≡ min (product (map (word l.ns) l.axis)) (most_places + 1))
