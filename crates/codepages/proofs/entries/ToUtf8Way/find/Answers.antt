use native.Mathlib.Omega.{arith}
use Rattle.std.proofs.Common.{◌≡◌, ◌+◌, ◌-◌}
use Rattle.codepages.specs.Laws.Passes.{skips_more, found_none, found_some, plain_to}
use Rattle.codepages.specs.Laws.Branches.{run_skips, to_none, to_found}
use Rattle.codepages.proofs.entries.ToUtf8Way.find.Goals as goal

pub returns-then-made-n : goal.returns-then-made-n
returns-then-made-n c =
    let a = c.args in
    let r = c.long_run_end.ensures in
    let m = c.in-Some.ensures in
    let s = skips_more m.2 (run_skips (plain_to _) r (omega arith)) in
    let z : c.long_run_end.result - a.i ≡ c.min-n.result + (c.long_run_end.result - (a.i + c.min-n.result)) = omega (arith, r.onward) in
    (omega (arith, r.onward), rw z (found_some (omega arith) (rw c.if-made-n.true at s) (omega (arith, s.inside))))

pub returns-in_err-c : goal.returns-in_err-c
returns-in_err-c c =
    let a = c.args in
    rw c.from_residual.ensures (found_none (to_none _ a.input.now a.i _ c.in_err-c.ensures (omega arith)))

pub returns : goal.returns
returns c =
    let a = c.args in
    let e = c.in_ok-c.ensures in
    (omega arith, to_found _ a.input.now a.i _ e.0 e.1 c.requires _ c.size.ensures)
