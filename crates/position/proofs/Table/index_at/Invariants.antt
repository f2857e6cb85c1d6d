-- The loop keeps the index on the dimensions passed.
use Rattle.std.proofs.Common.{◌≡◌, [], ◌∷◌}
use Rattle.grammar.specs.RecordWords.{word}
use Rattle.position.specs.Axes.{position_on, coordinate_at, axes_of}
use Rattle.position.specs.Laws.Table.{down}
use Rattle.position.proofs.Table.index_at.Given as goal

abbrev pub invariant-loop-i : goal.invariant-loop-i
invariant-loop-i l =
    l.k ≡ position_on (word l.self.ns.now) (coordinate_at (word l.self.ns.now) (axes_of l.self.order.now l.self.layers l.self.rows l.self.columns) (l.fn.cell.layer ∷ l.fn.cell.row ∷ l.fn.cell.column ∷ [])) (down l.i)
