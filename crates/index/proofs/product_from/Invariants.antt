-- The loop keeps the product in all, as far as one too large: p times the sizes that are left.
use Rattle.std.proofs.Common.{◌≡◌, ◌≤◌, ◌+◌, ◌-◌, ◌*◌, min}
use Rattle.sizes.specs.Sizes.{most_dimensions, most_places}
use Rattle.grammar.specs.RecordWords.{sizes}
use Rattle.grammar.specs.Index as spec
use Rattle.index.proofs.product_from.Given as goal

abbrev pub invariant-loop-e : goal.invariant-loop-e
invariant-loop-e l =
    (l.p ≤ most_places + 1)
    × (min (l.p * spec.product (sizes l.dims l.e (l.e-end - l.e))) (most_places + 1) ≡ min (spec.product (sizes l.dims (min l.i most_dimensions) (min l.count most_dimensions))) (most_places + 1))
