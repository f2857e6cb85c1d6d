use mathlib.Core.Path.{sym}
use native.Mathlib.Omega.{arith}
use Rattle.lists.specs.Lists.{has_room}
use Rattle.lists.specs.Laws.{room_last}
use Rattle.lists.proofs.has_room.Goals as goal

pub returns-in-0 : goal.returns-in-0
unfolding has_room
returns-in-0 c = rw c.in-0.is

pub returns-in-1 : goal.returns-in-1
unfolding has_room
returns-in-1 c = rw c.in-1.is

pub returns-in-2 : goal.returns-in-2
unfolding has_room
returns-in-2 c = rw c.in-2.is

pub returns-in-3 : goal.returns-in-3
unfolding has_room
returns-in-3 c = rw c.in-3.is

pub returns-in-4 : goal.returns-in-4
unfolding has_room
returns-in-4 c = rw c.in-4.is

pub returns-in-5 : goal.returns-in-5
unfolding has_room
returns-in-5 c = rw c.in-5.is

pub returns-in_default : goal.returns-in_default
unfolding has_room
returns-in_default c =
    sym (room_last c.args.step c.args.bytes (omega arith))
