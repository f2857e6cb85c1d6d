use Rattle.opening.proofs.Ends.{end_yes, end_no}
use Rattle.opening.proofs.ending.Goals as goal

pub returns-then-end-s : goal.returns-then-end-s
returns-then-end-s c = end_no _ _ c.past-end.ensures c.if-end-s.true

pub returns : goal.returns
returns c = end_yes _ _ c.past-end.ensures c.if-end-s.false
