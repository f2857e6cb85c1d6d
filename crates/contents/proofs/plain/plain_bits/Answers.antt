use Rattle.contents.proofs.plain.plain_bits.Goals as goal

pub returns : goal.returns
returns c = c.peek.ensures
