use Rattle.std.proofs.Common.{◌∙◌}
use Rattle.std.proofs.lemmas.Bool.{le-leb, le-ltb, lt-leb, lt-ltb}
use Rattle.sizes.specs.Basics.{pick}
use Rattle.total.specs.Laws.AllCall.{dimension_of}
use Rattle.total.proofs.all.dimension_answer.Goals as goal

pub returns-then-a-dimension : goal.returns-then-a-dimension
unfolding dimension_of pick
returns-then-a-dimension c = rw (le-ltb _ _ c.if-a-dimension.true) (c.refused_all.ensures ∙ rw c.number.ensures)

pub returns-then-room-n : goal.returns-then-room-n
unfolding dimension_of pick
returns-then-room-n c = rw (lt-ltb _ _ c.if-a-dimension.false, ← c.word-n.ensures, lt-leb _ _ c.if-room-n.true) (c.refused_all-then-room-n.ensures ∙ rw c.number-then-room-n.ensures)

pub returns : goal.returns
unfolding dimension_of pick
returns c = rw (lt-ltb _ _ c.if-a-dimension.false, ← c.word-n.ensures, le-leb _ _ c.if-room-n.false) c.refused_all-2.ensures
