use Rattle.styles.specs.Styles.{opaque}
use Rattle.styles.proofs.colors.opaque.Goals as goal

pub returns : goal.returns
unfolding opaque
returns c = rw (c.from_be_bytes.ensures, c.red.ensures, c.green.ensures, c.blue.ensures)
