use Rattle.std.proofs.lemmas.Result.{err_from_is_err_and}
use Rattle.codepages.proofs.Outcomes.{known_err}
use Rattle.codepages.proofs.to_utf8.Goals as goal

pub returns-in_err-page-clause-value : goal.returns-in_err-page-clause-value
returns-in_err-page-clause-value c =
    let p = err_from_is_err_and c.from_residual.result c.from_residual.ensures.1 in
    let k = rw c.in_err-page.was at c.known_page.ensures in
    rw (p.1, p.2) (known_err _ _ _ _ c.args.out.now _ k).0

pub returns-in_err-page-clause-out_after : goal.returns-in_err-page-clause-out_after
returns-in_err-page-clause-out_after c = (known_err _ _ _ _ _ _ (rw c.in_err-page.was at c.known_page.ensures)).1
