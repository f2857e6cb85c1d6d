use mathlib.Core.Path.{refl, ◌∙◌}
use native.Mathlib.Omega.{arith}
use Rattle.desk.proofs.Tests.{points_to, no_whole_record}
use Rattle.desk.proofs.name_of.Goals as goal

pub returns-then-i-nodes : goal.returns-then-i-nodes
returns-then-i-nodes c =
    let a = c.args in
    c.part.ensures
    ∙ points_to a.member.now a.nodes.now a.i (omega arith) refl refl

pub returns-else-i-nodes : goal.returns-else-i-nodes
returns-else-i-nodes c =
    let a = c.args in
    no_whole_record a.member.now a.nodes.now a.i (omega arith)
