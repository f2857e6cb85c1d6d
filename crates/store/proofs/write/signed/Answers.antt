use mathlib.Core.Path.{◌≡◌}
use mir.Syntax.{w32}
use mir.ValLaws.{to_z-of_z}
use Rattle.store.specs.Values.{twos}
use Rattle.store.proofs.write.signed.Goals as goal

pub returns : goal.returns
returns c =
    let k = c.to_bits in
    let e : k.result ≡ twos c.args.v = rw (to_z-of_z w32 c.args.v c.ranges.v) at k.ensures in
    rw (← e) c.int32.ensures.any
