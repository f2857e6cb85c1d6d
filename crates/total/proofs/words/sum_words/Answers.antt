use Rattle.total.proofs.words.sum_words.Goals as goal

pub bits-smallest-requires : goal.bits-smallest-requires
bits-smallest-requires c = c.requires.smallest

pub bits-largest-requires : goal.bits-largest-requires
bits-largest-requires c = c.requires.largest

pub returns : goal.returns
returns c = rw (← c.bits-smallest.ensures, ← c.bits-largest.ensures) c.put.ensures
