use Rattle.std.proofs.Common.{◌≡◌, refl, sym, ◌∙◌, true, Result, Ok, Err}
use Rattle.std.proofs.lemmas.Bool.{false≢true}
use Rattle.std.specs.Result.{is_ok}
use Rattle.refusals.specs.declared.Reason.{Reason}
use Rattle.refusals.specs.Verdicts.{code}
use Rattle.table.specs.Laws.OwnPart.{own_leaf_lem, own_group}
use Rattle.table.proofs.own_part.Goals as goal

passed : (v : Result Unit Reason) → is_ok v ≡ true → 0 ≡ code v
passed (Ok x) e = refl
passed (Err r) e = absurd (false≢true e)

pub returns-then-third-eq0 : goal.returns-then-third-eq0
returns-then-third-eq0 c = own_leaf_lem c.peek-kind.ensures c.if-kind-eq0.true c.peek-first.ensures c.if-first-eq2.true c.peek-second.ensures c.peek-third.ensures c.if-third-eq0.true

pub returns-then-second-eq-MINUS_ONE : goal.returns-then-second-eq-MINUS_ONE
returns-then-second-eq-MINUS_ONE c =
    let known = passed c.known_kind.result (sym c.is_ok.ensures.value ∙ c.if-is_ok.true) ∙ c.known_kind.ensures in
    own_group c.peek-kind.ensures c.if-kind-eq0.false known c.peek-second.ensures c.if-second-eq-MINUS_ONE.true c.peek-third.ensures
