use Rattle.std.proofs.Common.{sym, ◌∙◌}
use Rattle.cases_words.proofs.Calling.{ended, not_ended}
use Rattle.cases_words.proofs.end_words.Goals as goal

pub returns-then-not-roomy : goal.returns-then-not-roomy
returns-then-not-roomy c = not_ended _ _ (sym c.roomy.ensures ∙ c.if-not-roomy.true)

pub returns : goal.returns
returns c = ended _ _ _ (sym c.roomy.ensures ∙ c.if-not-roomy.false) (rw c.load.ensures at c.finish.ensures.is) (rw c.answer_words.ensures at c.put.ensures)
