use Rattle.std.proofs.Common.{◌≡◌, ◌/◌, length, arith}
use Rattle.cases.specs.Laws.Loop.{gives_on}
use Rattle.cases.proofs.calls.give_all.Goals as goal

pub loop-w-preserved : goal.loop-w-preserved
loop-w-preserved c =
    let a = c.args in
    rw c.put.ensures (gives_on a.kinds.now a.count a.bias _ a.output.now a.start a.from c.loop-w.output c.loop-w.c c.loop-w.w c.loop-w.invariant (omega arith) _ _ c.in-Some.ensures)

pub returns-then-c-ne-ACTS : goal.returns-then-c-ne-ACTS
returns-then-c-ne-ACTS c =
    let a = c.args in
    rw c.put.ensures (gives_on a.kinds.now a.count a.bias _ a.output.now a.start a.from c.loop-w.output c.loop-w.c c.loop-w.w c.loop-w.invariant (omega arith) _ _ c.in-Some.ensures)

pub returns : goal.returns
returns c = let e : c.loop-w.w ≡ length c.args.output.now / 8 = omega arith in rw e at c.loop-w.invariant
