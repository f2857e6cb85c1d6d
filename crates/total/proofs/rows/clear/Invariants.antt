-- The loop has cleared the rows before j.
use mathlib.Core.Path.{◌≡◌}
use mathlib.Core.List.{◌++◌}
use Prim.Native.Nat.{◌*◌}
use lib.ListN.{drop}
use Rattle.sizes.specs.Sizes.{leaf_total_words}
use Rattle.total.specs.Laws.LeafRows.{no_sum_words}
use Rattle.total.proofs.rows.clear.Given as goal

abbrev pub invariant-loop-j : goal.invariant-loop-j
invariant-loop-j l = l.area ≡ no_sum_words l.j ++ drop (leaf_total_words * l.j) l.initial.area
