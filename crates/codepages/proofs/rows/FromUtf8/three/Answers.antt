use Rattle.codepages.specs.Laws.Back.{three_not, three_found}
use Rattle.codepages.proofs.Pages.{index_below}
use Rattle.codepages.proofs.rows.FromUtf8.three.Goals as goal
use Rattle.codepages.proofs.rows.FromUtf8.three.Goals.{else-a-eq-LEAD-via-then-a-eq-LEAD+then-b-eq16+else-d-eq2, else-a-eq-LEAD-via-then-a-eq-LEAD+else-b-eq16, else-a-eq-LEAD-via-else-a-eq-LEAD}

pub returns-then-d-eq2 : goal.returns-then-d-eq2
returns-then-d-eq2 c =
    let a = c.args in
    rw (three_found _ a.a a.b a.d _ (index_below a.self.now.page) c.if-a-eq-LEAD.true c.if-b-eq16.true c.if-d-eq2.true c.look_up.ensures) at c.or_none.ensures

pub returns : goal.returns
returns c =
    three_not _ _ _ _ (index_below c.args.self.now.page) c.requires.0 c.requires.1
    (λ x y z. elim c.else-a-eq-LEAD.branch [
      | else-a-eq-LEAD-via-then-a-eq-LEAD+then-b-eq16+else-d-eq2 w ↦ w.if-d-eq2.false z
      | else-a-eq-LEAD-via-then-a-eq-LEAD+else-b-eq16 w ↦ w.if-b-eq16.false y
      | else-a-eq-LEAD-via-else-a-eq-LEAD w ↦ w.if-a-eq-LEAD.false x
    ])
