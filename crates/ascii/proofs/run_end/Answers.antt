use Rattle.ascii.proofs.Parts.{run_then}
use Rattle.ascii.proofs.run_end.Goals as goal

pub returns : goal.returns
returns c = run_then (run_then c.low_end-many.ensures c.low_end-few.ensures) c.low_end.ensures
