-- The loop has finished the rows before j.
use mathlib.Core.Path.{◌≡◌}
use Rattle.total.specs.Laws.LeafRows.{finished}
use Rattle.total.proofs.rows.finish.Given as goal

abbrev pub invariant-loop-j : goal.invariant-loop-j
invariant-loop-j l = l.area ≡ finished l.nodes l.cells l.j l.initial.area
