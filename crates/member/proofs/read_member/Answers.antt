use Rattle.std.proofs.Common.{rules}
use Rattle.layout.specs.Steps.Slices.{bytes_of}
use Rattle.member.specs.Laws.Whole.{not_delivered}
use Rattle.answer.proofs.Laws.Holds.{demand3}
use Rattle.member.proofs.read_member.Goals as goal

pub returns-in-Err : goal.returns-in-Err
returns-in-Err c =
    let a = c.args in
    let d = not_delivered a.member.now (rw c.in-Err.is at c.opening.ensures) {N = a.nodes.now} {C = a.cells.now} in
    record { checks = rw c.not_read.ensures d; demands = rw c.not_read.ensures (demand3 a.member.now (bytes_of _ c.type_inv.member) a.nodes.now a.cells.now d) }

pub returns-in-Ok-clause-checks : goal.returns-in-Ok-clause-checks
returns-in-Ok-clause-checks c = search rules

pub returns-in-Ok-clause-demands : goal.returns-in-Ok-clause-demands
returns-in-Ok-clause-demands c = demand3 c.args.member.now (bytes_of _ c.type_inv.member) c.args.nodes.now c.args.cells.now (returns-in-Ok-clause-checks c)
