use Rattle.total.proofs.words.bits.Goals as goal

pub float_to_bits-result : goal.float_to_bits-result
float_to_bits-result c = c.requires
