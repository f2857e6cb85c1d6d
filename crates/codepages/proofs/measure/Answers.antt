use native.Mathlib.Omega.{arith}
use Rattle.std.proofs.Common.{◌≡◌, refl, ◌∙◌, ◌<◌, length}
use Rattle.codepages.specs.Laws.Branches.{first_tally}
use Rattle.codepages.specs.Laws.Passes.{tally_refused, tally_end}
use Rattle.codepages.proofs.measure.Goals as goal

pub loop-i-init : goal.loop-i-init
loop-i-init g c = (first_tally (g.met.W.Way.plain c.args.way.now) c.run_end-run.ensures _, omega arith)

pub returns-in_default : goal.returns-in_default
returns-in_default g c =
    let n = rw c.in_default.is at c.find.ensures in
    let t = tally_refused c.loop-i.invariant.0 (n.refused refl) in
    let r = c.refusal.ensures in
    let h : c.refusal.result.place < length c.args.input.now = rw r.1 c.loop-i-test.true in
    (r.0, h, r.1 ∙ t.0)

pub returns : goal.returns
returns g c =
    let t = tally_end c.loop-i.invariant.0 (omega arith) in
    let e : length c.args.input.now ≡ c.loop-i.i = omega (arith, c.loop-i.invariant.0.inside) in
    ((e ∙ t.0, t.1), c.run_end-run.ensures)
