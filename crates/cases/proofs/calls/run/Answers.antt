use Rattle.std.proofs.Common.{length-drop, arith}
use borrow.Author.Tests.{le-ltb}
use Rattle.cases.specs.Steps.{firsts}
use Rattle.cases.specs.Laws.Loop.{begin, finish, turns_after, halts_after, ends_after, gave, same_length}
use Rattle.cases.proofs.calls.run.Goals as goal

pub loop-w-init : goal.loop-w-init
loop-w-init c = begin (firsts c.args.count c.args.kinds.now) c.args.count c.args.bias _ c.args.start c.args.input.now c.args.output.now c.requires.1

pub give_all-written-requires : goal.give_all-written-requires
give_all-written-requires c = (c.requires.0, c.loop-w.invariant.good, omega (arith, same_length c.loop-w.invariant))

pub overflow_add-i : goal.overflow_add-i
overflow_add-i c = omega (arith, c.in-Some.ensures.inside, c.loop-w.invariant.inside, length-drop c.loop-w.i c.args.input.now, c.well_formed)

pub emit-w-requires : goal.emit-w-requires
emit-w-requires c = omega (arith, c.if-w-room.true, c.give_all-written.ensures.same_length, same_length c.loop-w.invariant)

pub loop-w-smaller-then-w-room : goal.loop-w-smaller-then-w-room
loop-w-smaller-then-w-room c =
    let a = c.args in
    (turns_after a.kinds.now a.count a.bias _ a.start a.input.now a.output.now c.loop-w.output c.loop-w.c c.loop-w.i c.loop-w.w c.loop-w.invariant c.loop-w-test.true
    _ _ _ (rw (same_length c.loop-w.invariant) at c.give_all-written.ensures) c.if-w-room.true _ c.in-Some.ensures _ _ c.emit-w.ensures.0 c.emit-w.ensures.1).1

pub loop-w-preserved-then-w-room : goal.loop-w-preserved-then-w-room
loop-w-preserved-then-w-room c =
    let a = c.args in
    (turns_after a.kinds.now a.count a.bias _ a.start a.input.now a.output.now c.loop-w.output c.loop-w.c c.loop-w.i c.loop-w.w c.loop-w.invariant c.loop-w-test.true
    _ _ _ (rw (same_length c.loop-w.invariant) at c.give_all-written.ensures) c.if-w-room.true _ c.in-Some.ensures _ _ c.emit-w.ensures.0 c.emit-w.ensures.1).0

pub loop-w-smaller : goal.loop-w-smaller
loop-w-smaller c =
    let a = c.args in
    ends_after a.kinds.now a.count a.bias _ a.start a.input.now a.output.now c.loop-w.output c.loop-w.c c.loop-w.i c.loop-w.w c.loop-w.invariant c.loop-w-test.true
    _ _ _ (rw (same_length c.loop-w.invariant) at c.give_all-written.ensures) c.if-w-room.false

pub loop-w-preserved : goal.loop-w-preserved
loop-w-preserved c =
    let a = c.args in
    (gave a.kinds.now a.count a.bias _ a.start a.input.now a.output.now c.loop-w.output c.loop-w.c c.loop-w.i c.loop-w.w c.loop-w.invariant c.loop-w-test.true
    _ _ _ (rw (same_length c.loop-w.invariant) at c.give_all-written.ensures)).0

pub returns-after-loop-w : goal.returns-after-loop-w
returns-after-loop-w c = finish _ _ _ _ _ _ _ _ _ _ _ (rw (le-ltb _ _ c.loop-w-test.false) at c.loop-w.invariant)

pub returns-in_default : goal.returns-in_default
returns-in_default c =
    let a = c.args in
    finish _ _ _ _ _ _ _ _ _ _ _ (halts_after a.kinds.now a.count a.bias _ a.start a.input.now a.output.now c.loop-w.output c.loop-w.c c.loop-w.i c.loop-w.w c.loop-w.invariant c.loop-w-test.true
    _ _ _ (rw (same_length c.loop-w.invariant) at c.give_all-written.ensures) c.if-w-room.true c.in_default.ensures)
