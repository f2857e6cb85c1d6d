use Rattle.std.proofs.Common.{◌<◌, arith, sym, ◌∙◌}
use Rattle.lists.specs.Lists.{smallest_lists, small_lists, medium_lists, large_lists, larger_lists, largest_lists, has_room}
use Rattle.lists.specs.Laws.{not_last}
use Rattle.lists.proofs.Rooms.{room_for, takes_in, lent_in}
use Rattle.lists.proofs.+from_step.Goals as goal

pub lend-requires-clause-takes : goal.lend-requires-clause-takes
unfolding has_room
lend-requires-clause-takes g t c = takes_in g.F.FnMut c.args.work.now c.args.bytes (room_for c.args.bytes smallest_lists (rw c.in-0.is at (sym c.has_room.ensures ∙ c.if-has_room.true))) c.requires

pub lend-requires-in-1-clause-takes : goal.lend-requires-in-1-clause-takes
unfolding has_room
lend-requires-in-1-clause-takes g t c = takes_in g.F.FnMut c.args.work.now c.args.bytes (room_for c.args.bytes small_lists (rw c.in-1.is at (sym c.has_room.ensures ∙ c.if-has_room.true))) c.requires

pub lend-requires-in-2-clause-takes : goal.lend-requires-in-2-clause-takes
unfolding has_room
lend-requires-in-2-clause-takes g t c = takes_in g.F.FnMut c.args.work.now c.args.bytes (room_for c.args.bytes medium_lists (rw c.in-2.is at (sym c.has_room.ensures ∙ c.if-has_room.true))) c.requires

pub lend-requires-in-3-clause-takes : goal.lend-requires-in-3-clause-takes
unfolding has_room
lend-requires-in-3-clause-takes g t c = takes_in g.F.FnMut c.args.work.now c.args.bytes (room_for c.args.bytes large_lists (rw c.in-3.is at (sym c.has_room.ensures ∙ c.if-has_room.true))) c.requires

pub lend-requires-in-4-clause-takes : goal.lend-requires-in-4-clause-takes
unfolding has_room
lend-requires-in-4-clause-takes g t c = takes_in g.F.FnMut c.args.work.now c.args.bytes (room_for c.args.bytes larger_lists (rw c.in-4.is at (sym c.has_room.ensures ∙ c.if-has_room.true))) c.requires

pub lend-requires-in-5-clause-takes : goal.lend-requires-in-5-clause-takes
unfolding has_room
lend-requires-in-5-clause-takes g t c = takes_in g.F.FnMut c.args.work.now c.args.bytes (room_for c.args.bytes largest_lists (rw c.in-5.is at (sym c.has_room.ensures ∙ c.if-has_room.true))) c.requires

pub overflow_add-step : goal.overflow_add-step
overflow_add-step g t c = omega (arith, not_last c.args.step _ (sym c.has_room.ensures ∙ c.if-has_room.false))

pub returns-in-0 : goal.returns-in-0
unfolding has_room
returns-in-0 g t c = lent_in g.F.FnMut c.args.work.now c.args.bytes (room_for c.args.bytes smallest_lists (rw c.in-0.is at (sym c.has_room.ensures ∙ c.if-has_room.true))) c.lend.ensures

pub returns-in-1 : goal.returns-in-1
unfolding has_room
returns-in-1 g t c = lent_in g.F.FnMut c.args.work.now c.args.bytes (room_for c.args.bytes small_lists (rw c.in-1.is at (sym c.has_room.ensures ∙ c.if-has_room.true))) c.lend-in-1.ensures

pub returns-in-2 : goal.returns-in-2
unfolding has_room
returns-in-2 g t c = lent_in g.F.FnMut c.args.work.now c.args.bytes (room_for c.args.bytes medium_lists (rw c.in-2.is at (sym c.has_room.ensures ∙ c.if-has_room.true))) c.lend-in-2.ensures

pub returns-in-3 : goal.returns-in-3
unfolding has_room
returns-in-3 g t c = lent_in g.F.FnMut c.args.work.now c.args.bytes (room_for c.args.bytes large_lists (rw c.in-3.is at (sym c.has_room.ensures ∙ c.if-has_room.true))) c.lend-in-3.ensures

pub returns-in-4 : goal.returns-in-4
unfolding has_room
returns-in-4 g t c = lent_in g.F.FnMut c.args.work.now c.args.bytes (room_for c.args.bytes larger_lists (rw c.in-4.is at (sym c.has_room.ensures ∙ c.if-has_room.true))) c.lend-in-4.ensures

pub returns-in-5 : goal.returns-in-5
unfolding has_room
returns-in-5 g t c = lent_in g.F.FnMut c.args.work.now c.args.bytes (room_for c.args.bytes largest_lists (rw c.in-5.is at (sym c.has_room.ensures ∙ c.if-has_room.true))) c.lend-in-5.ensures

pub from_step-requires : goal.from_step-requires
from_step-requires g t c κs within =
    let n : c.args.step < 6 = not_last c.args.step _ (sym c.has_room.ensures ∙ c.if-has_room.false) in
    (omega (arith, n), (search (within), (search (within), c.requires)))
