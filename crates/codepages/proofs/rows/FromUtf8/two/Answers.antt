use Rattle.codepages.specs.Laws.Back.{two_low, two_not, two_found}
use Rattle.codepages.proofs.Pages.{index_below}
use Rattle.codepages.proofs.rows.FromUtf8.two.Goals as goal
use Rattle.codepages.proofs.rows.FromUtf8.two.Goals.{else-a-ge192-via-then-a-ge192+else-b-eq2, else-a-ge192-via-else-a-ge192}

pub returns-then-b-eq2 : goal.returns-then-b-eq2
returns-then-b-eq2 c =
    let a = c.args in
    rw (two_found _ a.a a.b _ (index_below a.self.now.page) c.if-a-ge192.true c.requires.1 c.if-b-eq2.true c.look_up.ensures) at c.or_none.ensures

pub returns : goal.returns
returns c =
    let k = index_below c.args.self.now.page in
    elim c.else-a-ge192.branch [
      | else-a-ge192-via-then-a-ge192+else-b-eq2 w ↦ two_not _ _ _ k c.requires.0 c.requires.1 w.if-b-eq2.false
      | else-a-ge192-via-else-a-ge192 w ↦ two_low _ _ _ k c.requires.0 w.if-a-ge192.false
    ]
