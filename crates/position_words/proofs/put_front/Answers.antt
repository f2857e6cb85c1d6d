use Rattle.std.proofs.Common.{refl, length, arith}
use Rattle.std.proofs.lemmas.Bool.{le-leb, lt-leb}
use Rattle.sizes.specs.Basics.{pick}
use Rattle.position_words.proofs.put_front.Goals as goal

pub returns-then-area : goal.returns-then-area
unfolding pick
returns-then-area g c = rw (lt-leb g.row.N (length c.args.area.now) (omega arith)) (refl, refl)

pub returns : goal.returns
unfolding pick
returns g c = rw (le-leb g.row.N (length c.args.area.now) (omega arith), c.copy_from_slice.ensures.after) (refl, refl)
