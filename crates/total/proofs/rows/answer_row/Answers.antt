use Rattle.total.proofs.rows.answer_row.Goals as goal

pub returns : goal.returns
returns c = rw (← c.bits-smallest.ensures, ← c.bits-largest.ensures) c.put_row.ensures
