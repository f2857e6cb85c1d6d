use native.Mathlib.Omega.{arith}
use Rattle.std.proofs.lemmas.Result.{err_from_is_err_and}
use Rattle.codepages.specs.Laws.Answers.{is_written, may_write, answers_written}
use Rattle.codepages.specs.Laws.Branches.{first_fits, first_ready, first_rest, first_then}
use Rattle.codepages.proofs.Outcomes.{measured_err, short_err}
use Rattle.codepages.proofs.convert.Goals as goal

pub returns-in_err-m-clause-value : goal.returns-in_err-m-clause-value
returns-in_err-m-clause-value g c =
    let p = err_from_is_err_and c.from_residual.result c.from_residual.ensures.1 in
    let m = rw c.in_err-m.was at c.measure.ensures in
    rw (p.1, p.2) (measured_err _ _ _ c.args.out.now _ m).0

pub returns-in_err-m-clause-out_after : goal.returns-in_err-m-clause-out_after
returns-in_err-m-clause-out_after g c = (measured_err _ _ _ _ _ (rw c.in_err-m.was at c.measure.ensures)).1

pub returns-then-out-m-clause-value : goal.returns-then-out-m-clause-value
returns-then-out-m-clause-value g c = (short_err _ _ _ c.args.out.now _ c.refusal.result c.in_ok-m.ensures.0 (omega arith) c.refusal.ensures).0

pub returns-then-out-m-clause-out_after : goal.returns-then-out-m-clause-out_after
returns-then-out-m-clause-out_after g c = (short_err _ _ _ _ _ c.refusal.result c.in_ok-m.ensures.0 (omega arith) c.refusal.ensures).1

pub copy_run-run-requires : goal.copy_run-run-requires
copy_run-run-requires g c =
    let m = c.in_ok-m.ensures in
    let w = may_write _ _ _ _ _ m.0 (omega arith) (omega arith) in
    (omega arith, m.1.inside (omega arith), first_fits (g.met.W.Way.plain c.args.way.now) m.1 _ w.1)

pub write-requires-clause-ready : goal.write-requires-clause-ready
write-requires-clause-ready g c =
    let m = c.in_ok-m.ensures in
    let w = may_write _ _ _ _ _ m.0 (omega arith) (omega arith) in
    first_ready (g.met.W.Way.plain c.args.way.now) m.1 _ _ _ w.1 c.copy_run-run.ensures w.0

pub write-requires-clause-end_at : goal.write-requires-clause-end_at
write-requires-clause-end_at g c =
    let m = c.in_ok-m.ensures in
    let w = may_write _ _ _ _ _ m.0 (omega arith) (omega arith) in
    first_rest (g.met.W.Way.plain c.args.way.now) m.1 _ _ _ w.1 c.copy_run-run.ensures _ (m.0.1.exact (omega arith))

pub returns-clause-value : goal.returns-clause-value
returns-clause-value g c =
    let m = c.in_ok-m.ensures in
    let w = may_write _ _ _ _ _ m.0 (omega arith) (omega arith) in
    (answers_written _ _ _ _ _ (is_written _ _ _ _ _ m.0 (omega arith) (omega arith)) (m.0.1.exact (omega arith))
    (first_then (g.met.W.Way.plain c.args.way.now) m.1 _ _ _ w.1 c.copy_run-run.ensures c.write.ensures)).0

pub returns-clause-out_after : goal.returns-clause-out_after
returns-clause-out_after g c =
    let m = c.in_ok-m.ensures in
    let w = may_write _ _ _ _ _ m.0 (omega arith) (omega arith) in
    (answers_written _ _ _ _ _ (is_written _ _ _ _ _ m.0 (omega arith) (omega arith)) (m.0.1.exact (omega arith))
    (first_then (g.met.W.Way.plain c.args.way.now) m.1 _ _ _ w.1 c.copy_run-run.ensures c.write.ensures)).1
