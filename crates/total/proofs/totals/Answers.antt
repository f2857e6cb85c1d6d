use Rattle.std.proofs.Common.{rules}
use Rattle.layout.specs.Steps.Slices.{bytes_of}
use Rattle.total.specs.Laws.ByDerivation.{all_by_derivation}
use Rattle.total.proofs.totals.Goals as goal

pub returns-clause-answers : goal.returns-clause-answers
returns-clause-answers c = search rules

pub returns-clause-demands : goal.returns-clause-demands
returns-clause-demands c =
    let a = c.args in
    all_by_derivation (bytes_of _ c.type_inv.member) a.nodes.now a.cells.now a.dimension a.totals.now (returns-clause-answers c)
