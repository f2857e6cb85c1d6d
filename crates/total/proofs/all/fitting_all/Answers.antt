use Rattle.std.proofs.Common.{◌∙◌}
use Rattle.std.proofs.lemmas.Bool.{le-leb, lt-leb}
use Rattle.sizes.specs.Basics.{pick}
use Rattle.total.proofs.all.fitting_all.Goals as goal

pub returns-then-node_room-a : goal.returns-then-node_room-a
unfolding pick
returns-then-node_room-a c = rw (lt-leb _ _ c.if-node_room-a.true) (c.refused_all.ensures ∙ rw c.number.ensures)

pub returns-then-cell_room-a : goal.returns-then-cell_room-a
unfolding pick
returns-then-cell_room-a c = rw (le-leb _ _ c.if-node_room-a.false, lt-leb _ _ c.if-cell_room-a.true) (c.refused_all-then-cell_room-a.ensures ∙ rw c.number-then-cell_room-a.ensures)

pub returns : goal.returns
unfolding pick
returns c = rw (le-leb _ _ c.if-node_room-a.false, le-leb _ _ c.if-cell_room-a.false) c.dimension_answer.ensures
