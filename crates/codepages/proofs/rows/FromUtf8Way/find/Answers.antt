use native.Mathlib.Omega.{arith}
use mathlib.Core.Path.{refl}
use Rattle.codepages.specs.Laws.Passes.{found_none, plain_from}
use Rattle.codepages.specs.Laws.Branches.{run_found, from_none, from_some, from_found}
use Rattle.codepages.proofs.Pages.{index_below}
use Rattle.codepages.proofs.rows.FromUtf8Way.find.Goals as goal

pub returns-then-input-i-lt-ASCII : goal.returns-then-input-i-lt-ASCII
returns-then-input-i-lt-ASCII c =
    let a = c.args in
    (omega (arith, c.run_end.ensures.onward), run_found (plain_from _) a.input.now a.i _ c.if-input-i-lt-ASCII.true c.requires c.run_end.ensures (omega arith))

pub returns-in_err-character : goal.returns-in_err-character
returns-in_err-character c =
    let a = c.args in
    rw c.from_residual.ensures (found_none (from_none _ a.input.now a.i _ _ (index_below a.self.now.page) c.requires c.in_err-character.ensures refl (omega arith)))

pub returns : goal.returns
returns c =
    let a = c.args in
    let k = index_below a.self.now.page in
    let e = c.in_ok-character.ensures in
    (from_some _ a.input.now a.i _ _ k c.requires e.0 c.lead_size.ensures e.1, from_found _ a.input.now a.i _ _ k c.requires e.0 c.lead_size.ensures e.1)
