-- What io::decimal writes is the number's decimal.
use mathlib.Core.Path.{◌≡◌, ◌∙◌}
use native.Mathlib.Omega.{arith}
use lib.ListN.{take}
use Rattle.report.specs.Text.{decimal}
use Rattle.report.specs.Laws.Decimal.{most_digits, is_decimal}
use Rattle.report.proofs.text.number.Goals as goal

pub put-requires : goal.put-requires
put-requires c =
    let k = c.decimal-k in
    let e : take k.result k.new.out ≡ decimal c.args.n =
    k.ensures.digits ∙ is_decimal k.ensures.len (most_digits 20 k.ensures.len (omega arith) (omega arith)) in
    rw e (omega arith)

pub returns : goal.returns
returns c =
    let k = c.decimal-k in
    let e : take k.result k.new.out ≡ decimal c.args.n =
    k.ensures.digits ∙ is_decimal k.ensures.len (most_digits 20 k.ensures.len (omega arith) (omega arith)) in
    rw e at c.put.ensures
