use mathlib.Core.Path.{sym}
use lib.Seq.{length-take-le}
use native.Mathlib.Omega.{arith}
use Rattle.nulls.proofs.NullBytes.{null_ends}
use Rattle.nulls.proofs.null_at_ends.Goals as goal

pub slice_bounds-any_null-end : goal.slice_bounds-any_null-end
slice_bounds-any_null-end c = sym (length-take-le _ _ (omega arith))

pub returns : goal.returns
returns c =
    let a = c.args in
    rw (c.any_null.ensures, c.any_null-2.ensures) (null_ends a.s.now a.k (omega arith) (omega arith))
