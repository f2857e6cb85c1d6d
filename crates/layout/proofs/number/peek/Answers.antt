use Rattle.layout.proofs.number.peek.Goals as goal

pub returns : goal.returns
returns c = rw (← c.width.ensures) c.number.ensures
