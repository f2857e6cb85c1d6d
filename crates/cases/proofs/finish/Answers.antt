use Rattle.std.proofs.Common.{sym, ◌∙◌}
use Rattle.sizes.specs.Basics.{pick}
use Rattle.case_state.proofs.Laws.Valid.{state_sound}
use Rattle.cases.specs.Answers.{finish_of}
use Rattle.cases.specs.Laws.Answering.{end_is}
use Rattle.cases.proofs.finish.Goals as goal

pub returns-then-not-state_ok : goal.returns-then-not-state_ok
unfolding finish_of pick
returns-then-not-state_ok c = record { is = rw (sym c.state_ok.ensures ∙ c.if-not-state_ok.true, c.refused.ensures.0); placed = c.refused.ensures.1 }

pub returns : goal.returns
unfolding finish_of pick
returns c = let ok = sym c.state_ok.ensures ∙ c.if-not-state_ok.false in record { is = rw ok (c.end_of.ensures.is ∙ end_is _ _ (state_sound c.args.s ok).1); placed = c.end_of.ensures.placed }
