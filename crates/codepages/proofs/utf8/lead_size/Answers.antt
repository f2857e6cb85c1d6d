use native.Mathlib.Omega.{arith}
use Rattle.codepages.specs.Laws.Branches.{lead_one, lead_two, lead_three}
use Rattle.codepages.proofs.utf8.lead_size.Goals as goal

pub returns-then-a-lt128 : goal.returns-then-a-lt128
returns-then-a-lt128 c = lead_one _ (omega arith)

pub returns-then-a-lt224 : goal.returns-then-a-lt224
returns-then-a-lt224 c = lead_two _ (omega arith) (omega arith)

pub returns : goal.returns
returns c = lead_three _ (omega arith)
