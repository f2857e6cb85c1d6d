use Rattle.member.proofs.part.Goals as goal

pub returns : goal.returns
returns c = c.part.ensures
