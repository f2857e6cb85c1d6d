use Rattle.std.specs.Prelude.{min}
use Rattle.std.proofs.Common.{◌∙◌, arith}
use Rattle.case_state.proofs.Laws.Valid.{kinds_all}
use Rattle.case_state.proofs.valid.kinds_ok.Goals as goal

pub returns : goal.returns
returns c = c.known.ensures ∙ rw c.min.ensures (kinds_all (min c.args.count 256) c.args.kinds.now (omega arith))
