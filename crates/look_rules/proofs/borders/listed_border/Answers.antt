use Rattle.look_rules.proofs.borders.listed_border.Goals as goal

pub returns-in-Drawn : goal.returns-in-Drawn
returns-in-Drawn c = rw c.in-Drawn.is c.listed.ensures
