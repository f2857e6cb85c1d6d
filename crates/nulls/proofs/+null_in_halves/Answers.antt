use Prim.Native.Nat.{◌/◌}
use lib.ListN.{length}
use Rattle.nulls.proofs.NullBytes.{among_rest}
use Rattle.nulls.proofs.+null_in_halves.Goals as goal

pub returns : goal.returns
returns t c =
    let s = c.args.s.now in
    rw (c.null_in_halves.ensures, c.null_in_halves-2.ensures) (among_rest s (length s / 2))
