use mathlib.Core.Path.{sym, ap}
use lib.ListN.{length}
use lib.Seq.{take-length}
use Rattle.layout.proofs.slice.whole.Goals as goal

pub slice_bounds-result-end : goal.slice_bounds-result-end
slice_bounds-result-end c = sym (ap length (take-length c.args.s.now))

pub returns : goal.returns
returns c = take-length c.args.s.now
