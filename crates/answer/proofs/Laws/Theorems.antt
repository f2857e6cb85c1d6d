-- What Demand3.antt states of all derivations.
use Rattle.grammar.specs.Member.{version}
use Rattle.grammar.specs.Laws.Member.Demanded as demanded
use Rattle.grammar.specs.Laws.Member.ValidValues.{nodes_valid, dimensions_valid, cells_valid}
use Rattle.grammar.proofs.Laws.Member.NoZeroInside.{member_free, values_free, cell_values_free}
use Rattle.answer.specs.Demand3.{OneDerivation, NoZeroInside, ValuesNoZeroInside}

pub one_derivation : OneDerivation
one_derivation = demanded.one_derivation

pub no_zero_inside : NoZeroInside
no_zero_inside bs m = member_free m.tree m.valid

pub values_no_zero_inside : ValuesNoZeroInside
values_no_zero_inside bs m =
    let v = version m.tree in
    (values_free v (nodes_valid m.tree m.valid), values_free v (dimensions_valid m.tree m.valid), cell_values_free v (cells_valid m.tree m.valid))
