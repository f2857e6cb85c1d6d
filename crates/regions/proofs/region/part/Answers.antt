use borrow.Author.Tests.{le-leb, lt-leb}
use Rattle.std.proofs.lemmas.Result.{err_from_is_err_and}
use Rattle.sizes.specs.Basics.{pick}
use Rattle.layout.specs.Reads as spec
use Rattle.layout.specs.Steps.Fields.{part_at}
use Rattle.regions.proofs.region.part.Goals as goal
use Rattle.regions.proofs.region.part.Goals.{else-w-room-via-then-w-room+else-n-room, else-w-room-via-else-w-room}

pub returns-in_err-at : goal.returns-in_err-at
unfolding spec.part
returns-in_err-at c =
    let p = err_from_is_err_and c.from_residual.result c.from_residual.ensures.1 in
    rw (p.1, p.2, c.in_err-at.was)

pub returns-then-n-room : goal.returns-then-n-room
unfolding spec.part pick
returns-then-n-room c =
    let n = rw (← c.width-w.ensures) at c.peek-n.ensures in
    simp (c.in_ok-at.was, part_at, ← c.width-w.ensures, ← n, ← c.left-room.ensures, le-leb _ _ c.if-w-room.true, le-leb _ _ c.if-n-room.true)

pub returns : goal.returns
unfolding spec.part pick
returns c =
    let n = rw (← c.width-w.ensures) at c.peek-n.ensures in
    elim c.else-w-room.branch [
      | else-w-room-via-then-w-room+else-n-room w ↦
          let n = rw (← c.width-w.ensures) at c.peek-n.ensures in
          simp (c.in_ok-at.was, part_at, ← c.width-w.ensures, ← n, ← c.left-room.ensures, le-leb _ _ w.if-w-room.true, lt-leb _ _ w.if-n-room.false)
      | else-w-room-via-else-w-room w ↦
          let n = rw (← c.width-w.ensures) at c.peek-n.ensures in
          simp (c.in_ok-at.was, part_at, ← c.width-w.ensures, ← n, ← c.left-room.ensures, lt-leb _ _ w.if-w-room.false)
    ]
