use Rattle.sections_put.specs.Fields.{hex}
use Rattle.sections_put.proofs.word.hex.Goals as goal

pub returns : goal.returns
unfolding hex
returns c =
    rw (
      c.digit.ensures,
      c.digit-2.ensures,
      c.digit-3.ensures,
      c.digit-4.ensures,
      c.digit-5.ensures,
      c.digit-6.ensures,
      c.red-r.ensures,
      c.green-g.ensures,
      c.blue-b.ensures,
    )
