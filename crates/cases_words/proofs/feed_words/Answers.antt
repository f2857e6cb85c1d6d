use Rattle.std.proofs.Common.{sym, ◌∙◌}
use Rattle.sizes.specs.Basics.{pick}
use Rattle.cases_words.proofs.Calling.{state_room, fed, not_fed}
use Rattle.cases_words.proofs.feed_words.Goals as goal
use Rattle.cases_words.proofs.feed_words.Goals.{then-not-no_state, else-not-no_state}

pub save-requires : goal.save-requires
save-requires c = state_room _ _ _ (sym c.roomy.ensures ∙ c.if-not-roomy.false)

pub returns-then-not-roomy : goal.returns-then-not-roomy
returns-then-not-roomy c = not_fed _ _ _ _ (sym c.roomy.ensures ∙ c.if-not-roomy.true)

pub returns : goal.returns
unfolding pick
returns c =
    fed _ _ _ _ _ (sym c.roomy.ensures ∙ c.if-not-roomy.false) (rw c.load.ensures at c.feed-call.ensures.called)
    (elim c.if-not-no_state.branch [
      | then-not-no_state w ↦ rw (sym c.no_state.ensures ∙ w.if-not-no_state.true) (w.state-is ∙ w.save.ensures)
      | else-not-no_state w ↦ rw (sym c.no_state.ensures ∙ w.if-not-no_state.false) w.state-is
    ]) (rw (c.answer_words.ensures, c.low.ensures, c.low-2.ensures) at c.put.ensures)
