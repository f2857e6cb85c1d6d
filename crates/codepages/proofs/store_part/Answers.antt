use native.Mathlib.Omega.{arith}
use Rattle.codepages.specs.Laws.Branches.{run_fits, run_wrote}
use Rattle.codepages.proofs.store_part.Goals as goal

pub copy_run-n-requires : goal.copy_run-n-requires
copy_run-n-requires g c =
    let r = c.long_run_end-e.ensures in
    (r.onward, r.inside (omega arith), run_fits (g.met.W.Way.plain c.args.way.now) r (omega arith) c.requires.ready)

pub returns-then-i-e : goal.returns-then-i-e
returns-then-i-e g c =
    rw c.copy_run-n.ensures.1 (run_wrote (g.met.W.Way.plain c.args.way.now) c.long_run_end-e.ensures (omega arith) (omega arith) c.copy_run-n.ensures.0)
