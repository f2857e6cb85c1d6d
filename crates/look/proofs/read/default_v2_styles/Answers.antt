use Rattle.look.proofs.read.default_v2_styles.Goals as goal

pub returns : goal.returns
returns c = rw (c.frame_of.ensures, c.frame_of-2.ensures)
