use Rattle.cases.specs.Steps.{emitted, counted}
use Rattle.cases.proofs.calls.emit.Goals as goal

pub returns-in-Some : goal.returns-in-Some
unfolding emitted counted
returns-in-Some c = (rw c.in-Some.is c.put.ensures, rw c.in-Some.is)

pub returns-in-None : goal.returns-in-None
unfolding emitted counted
returns-in-None c = (rw c.in-None.is, rw c.in-None.is)
