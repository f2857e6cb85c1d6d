use mathlib.Core.Path.{refl}
use Rattle.member.specs.Laws.Whole.{none_stored, enough_later}
use Rattle.grammar.specs.Laws.Member.Checked.{checked}
use Rattle.member.proofs.read_ready.Goals as goal

pub read_body-requires : goal.read_body-requires
read_body-requires c = (enough_later c.args.member.now _ c.requires, rw c.in-Ok.is at c.opening.ensures)

pub returns-in-Err : goal.returns-in-Err
returns-in-Err c = rw c.not_read.ensures (none_stored (checked c.args.member.now) (rw c.in-Err.is at c.opening.ensures) refl refl)
