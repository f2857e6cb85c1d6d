use Rattle.std.proofs.Common.{sym, ◌∙◌}
use Rattle.cases_words.proofs.Calling.{state_room, placed_outcome, started, not_started}
use Rattle.cases_words.proofs.start_words.Goals as goal

pub settle-answered-requires : goal.settle-answered-requires
settle-answered-requires c = state_room _ _ _ (sym c.roomy.ensures ∙ c.if-not-roomy.false)

pub answer_words-requires : goal.answer_words-requires
answer_words-requires c = rw c.settle-answered.ensures.answers (placed_outcome _ c.start.ensures.placed)

pub returns-then-not-roomy : goal.returns-then-not-roomy
returns-then-not-roomy c = not_started _ _ _ _ (sym c.roomy.ensures ∙ c.if-not-roomy.true)

pub returns : goal.returns
returns c = started _ _ _ _ _ (sym c.roomy.ensures ∙ c.if-not-roomy.false) c.start.ensures.is c.settle-answered.ensures.settles (rw (c.answer_words.ensures, c.settle-answered.ensures.answers) at c.put.ensures)
