-- The loop keeps `Going`, whose laws are in `specs/Laws/Loop.antt`.
use Rattle.std.specs.Prelude.{ltb}
use Rattle.cases.specs.Steps.{firsts}
use Rattle.cases.specs.Laws.Loop.{Going, measure}
use Rattle.cases.proofs.calls.run.Given as goal

abbrev pub invariant-loop-w : goal.invariant-loop-w
invariant-loop-w l = Going (firsts l.count l.kinds) l.count l.bias l.room l.initial.c l.input l.initial.output l.output l.c l.i l.w (ltb l.w l.room)

abbrev pub decreases-loop-w : goal.decreases-loop-w
decreases-loop-w l = measure l.input l.c l.i (ltb l.w l.room)
