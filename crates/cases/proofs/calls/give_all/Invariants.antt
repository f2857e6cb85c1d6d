-- The loop keeps `Gone`, whose laws are in `specs/Laws/Loop.antt`.
use Rattle.cases.specs.Steps.{firsts}
use Rattle.cases.specs.Laws.Loop.{Gone}
use Rattle.cases.proofs.calls.give_all.Given as goal

abbrev pub invariant-loop-w : goal.invariant-loop-w
invariant-loop-w l = Gone (firsts l.count l.kinds) l.count l.bias l.room l.initial.output l.initial.c l.fn.from l.output l.c l.w
