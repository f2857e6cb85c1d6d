use Rattle.store.specs.Laws.Puts.{plain}
use Rattle.look.specs.Values.{default_continuation}
use Rattle.look_put.proofs.continuation_of.Goals as goal

pub returns-in-Default : goal.returns-in-Default
unfolding default_continuation
returns-in-Default c = rw c.in-Default.is (plain c.text.ensures)

pub returns-in-Stored : goal.returns-in-Stored
returns-in-Stored c = rw c.in-Stored.is c.name.ensures
