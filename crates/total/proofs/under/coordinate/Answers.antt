use Rattle.total.proofs.under.coordinate.Goals as goal

pub returns : goal.returns
returns c = rw (c.quotient.ensures, c.remainder.ensures, c.from.ensures)
