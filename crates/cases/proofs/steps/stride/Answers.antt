use Rattle.std.proofs.Common.{refl, arith}
use borrow.Author.Tests.{ne_eqb}
use Rattle.cases.specs.Laws.Agree.{resting}
use Rattle.cases.specs.Laws.Quick.{steps_at}
use Rattle.cases.proofs.steps.stride.Goals as goal

pub returns-in_default : goal.returns-in_default
returns-in_default c =
    let a = c.args in
    steps_at a.kind a.count a.bias a.c a.input.now a.i _ _ refl
    (resting a.kind a.count a.bias a.c _ c.requires _ (ne_eqb a.c.phase 0 (λ e. absurd (omega arith))) (ne_eqb a.c.phase 1 (λ e. absurd (omega arith))))
