use mathlib.Core.Path.{refl}
use Rattle.answer.specs.Demand3.{zeros}
use Rattle.answer.specs.Answer as spec
use Rattle.answer.proofs.refused.Goals as goal

pub returns : goal.returns
unfolding spec.refusal zeros
returns c = refl
