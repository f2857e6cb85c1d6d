use Rattle.std.proofs.Common.{sym, length-take-le}
use Rattle.std.proofs.Math.Path.{refl}
use Rattle.member.specs.Laws.Whole.{stored_room, all_delivered, none_delivered}
use Rattle.member.proofs.read_with_lists.Goals as goal

pub slice_bounds-deliver-end : goal.slice_bounds-deliver-end
slice_bounds-deliver-end c = (stored_room c.read_body-a.ensures).0

pub slice_bounds-deliver-end-2 : goal.slice_bounds-deliver-end-2
slice_bounds-deliver-end-2 c = sym (length-take-le _ _ (stored_room c.read_body-a.ensures).0)

pub slice_bounds-deliver-end-3 : goal.slice_bounds-deliver-end-3
slice_bounds-deliver-end-3 c = (stored_room c.read_body-a.ensures).1

pub slice_bounds-deliver-end-4 : goal.slice_bounds-deliver-end-4
slice_bounds-deliver-end-4 c = sym (length-take-le _ _ (stored_room c.read_body-a.ensures).1)

pub returns-in-Err : goal.returns-in-Err
returns-in-Err c = rw (c.refused-a.ensures, c.number.ensures) (none_delivered c.read_body-a.ensures (rw c.in-Err.is at c.deliver.ensures.filled) (rw c.in-Err.is at c.deliver.ensures.reason))

pub returns-in_default : goal.returns-in_default
returns-in_default c = all_delivered c.read_body-a.ensures (rw c.in_default.is at c.deliver.ensures.filled) refl
