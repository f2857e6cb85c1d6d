use Rattle.std.proofs.Common.{arith}
use Rattle.styles.specs.Styles.{background}
use Rattle.styles.proofs.colors.background.Goals as goal

pub returns : goal.returns
unfolding background
returns c =
    rw (
      c.from_le_bytes.ensures,
      c.mixed-r.ensures,
      c.red-2.ensures,
      c.red.ensures,
      c.mixed-g.ensures,
      c.green-2.ensures,
      c.green.ensures,
      c.mixed-b.ensures,
      c.blue-2.ensures,
      c.blue.ensures,
    )
    (omega arith)
