use Rattle.std.proofs.Common.{sym, ◌∙◌, arith}
use Rattle.case_state.proofs.Laws.Valid.{state_sound, bias_sound}
use Rattle.cases.specs.Laws.Answering.{call_fed, call_refused}
use Rattle.cases.proofs.feed.Goals as goal

pub overflow_cast-s : goal.overflow_cast-s
overflow_cast-s c = omega (arith, bias_sound c.args.s (sym c.state_ok.ensures ∙ c.if-not-state_ok.false))

pub run-fed-requires : goal.run-fed-requires
run-fed-requires c = state_sound c.args.s (sym c.state_ok.ensures ∙ c.if-not-state_ok.false)

pub returns-then-not-state_ok : goal.returns-then-not-state_ok
returns-then-not-state_ok c = record {
  called = rw c.refused.ensures.0 (call_refused c.args.s _ _ (sym c.state_ok.ensures ∙ c.if-not-state_ok.true));
  placed = c.refused.ensures.1;
}

pub returns : goal.returns
returns c = record {
  called = call_fed c.args.s _ _ _ _ _ _ (sym c.state_ok.ensures ∙ c.if-not-state_ok.false) c.run-fed.ensures _ c.refusal_of.ensures.is (omega arith);
  placed = c.refusal_of.ensures.placed;
}
