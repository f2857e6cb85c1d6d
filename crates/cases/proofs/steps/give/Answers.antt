-- The arm of an element by its law of `Agree`.
use Rattle.std.proofs.Common.{◌≡◌, sym, ap, ◌∙◌, arith}
use Rattle.case_codes.specs.Codes.{said}
use Rattle.cases.specs.Laws.Agree.{giving, place_in}
use Rattle.cases.specs.Laws.Quick.{given}
use Rattle.cases.proofs.steps.give.Goals as goal

pub following-requires : goal.following-requires
following-requires c = c.requires.at_in

pub passed-requires : goal.passed-requires
passed-requires c = let acts : c.args.c.phase ≡ 1 = omega arith in place_in c.args.count c.args.c c.requires acts (omega arith)

pub returns-in-Gives : goal.returns-in-Gives
returns-in-Gives c =
    let a = c.args in
    let acts : a.c.phase ≡ 1 = omega arith in
    rw (c.passed.ensures, c.following.ensures)
    (given a.kind a.count a.bias a.c _ _ (λ more b. giving a.kind a.count a.bias a.c b c.requires acts more _ (sym c.judge.ensures ∙ ap said c.in-Gives.is)))
