use Rattle.std.proofs.Common.{ap}
use Rattle.styles.specs.Styles.{margin}
use Rattle.styles.proofs.alignment.margin.Goals as goal

pub returns : goal.returns
unfolding margin
returns c = ap (λ p. p.value.0) (rw (c.unwrap.ensures, c.from.ensures) at c.pt_to_px.ensures.answer)
