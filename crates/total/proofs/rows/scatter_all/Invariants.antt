-- The loop has added the cells of the records from i on.
use mathlib.Core.Path.{◌≡◌}
use mathlib.Core.List.{◌++◌}
use Prim.Native.Nat.{◌-◌, ◌*◌}
use lib.ListN.{drop}
use Rattle.sizes.specs.Sizes.{leaf_total_words}
use Rattle.total.specs.Laws.Words.{records_say}
use Rattle.total.specs.Laws.LeafRows.{all_sums}
use Rattle.total.proofs.rows.scatter_all.Given as goal

abbrev pub invariant-loop-i : goal.invariant-loop-i
invariant-loop-i l = l.area ≡ all_sums l.block l.step (records_say l.member l.version l.words l.i (l.cells - l.i)) l.n ++ drop (leaf_total_words * l.n) l.initial.area
