use native.Mathlib.Omega.{arith}
use Rattle.desk.proofs.Names.{place_there, no_place}
use Rattle.desk.proofs.place.place_of.Goals as goal

pub returns-then-i-nodes : goal.returns-then-i-nodes
returns-then-i-nodes c = place_there _ _ _ (omega arith) c.inside.ensures

pub returns-else-i-nodes : goal.returns-else-i-nodes
returns-else-i-nodes c = no_place _ _ _ (omega arith)
