-- `case_codes::difference` meets its contract: the difference is no NaN.
use native.Mathlib.Omega.{arith}
use Rattle.case_stream.proofs.Laws.Exact.{not_nan}
use Rattle.case_codes.proofs.difference.Goals as goal

pub float_to_bits-result : goal.float_to_bits-result
float_to_bits-result c = not_nan c.args.code c.args.bias (omega arith) (omega arith)
