-- Each arm by its law of `Agree`: the verdict is what the code says.
use Rattle.std.proofs.Common.{refl, sym, ap, ◌∙◌, arith}
use Rattle.case_codes.specs.Codes.{said}
use Rattle.cases.specs.Laws.Agree.{skipping, finishing, refusing, giving, place_in}
use Rattle.cases.specs.Laws.Quick.{steps_at}
use Rattle.cases.proofs.steps.act.Goals as goal

pub passed-requires : goal.passed-requires
passed-requires c = let a = c.args in place_in a.count a.c c.requires.1 c.requires.0 (omega arith)

pub following-requires : goal.following-requires
following-requires c = c.requires.1.at_in

pub passed-requires-in-Gives : goal.passed-requires-in-Gives
passed-requires-in-Gives c = let a = c.args in place_in a.count a.c c.requires.1 c.requires.0 (omega arith)

pub take_block-requires : goal.take_block-requires
take_block-requires c = (c.requires.0, c.requires.1, sym c.judge.ensures ∙ ap said c.in-Block.is)

pub returns-in-Skip : goal.returns-in-Skip
returns-in-Skip c = let a = c.args in rw (c.silent.ensures, c.passed.ensures) (steps_at a.kind a.count a.bias a.c a.input.now a.i _ _ refl (skipping a.kind a.count a.bias a.c _ c.requires.1 c.requires.0 _ (sym c.judge.ensures ∙ ap said c.in-Skip.is)))

pub returns-in-Finish : goal.returns-in-Finish
returns-in-Finish c = let a = c.args in rw (c.silent-in-Finish.ensures, c.stopped.ensures) (steps_at a.kind a.count a.bias a.c a.input.now a.i _ _ refl (finishing a.kind a.count a.bias a.c _ c.requires.1 c.requires.0 _ (sym c.judge.ensures ∙ ap said c.in-Finish.is)))

pub returns-in-Wrong : goal.returns-in-Wrong
returns-in-Wrong c = let a = c.args in rw (c.silent-in-Wrong.ensures, c.stopped-in-Wrong.ensures) (steps_at a.kind a.count a.bias a.c a.input.now a.i _ _ refl (refusing a.kind a.count a.bias a.c _ c.requires.1 c.requires.0 _ (sym c.judge.ensures ∙ ap said c.in-Wrong.is)))

pub returns-in-Gives : goal.returns-in-Gives
returns-in-Gives c = let a = c.args in rw (c.writing.ensures, c.passed-in-Gives.ensures, c.following.ensures) (steps_at a.kind a.count a.bias a.c a.input.now a.i _ _ refl (giving a.kind a.count a.bias a.c _ c.requires.1 c.requires.0 _ _ (sym c.judge.ensures ∙ ap said c.in-Gives.is)))
