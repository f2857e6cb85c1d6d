use Rattle.std.proofs.Common.{rules, refl}
use Rattle.sizes.specs.Basics.{pick}
use Rattle.layout.specs.Reads as spec
use Rattle.regions.proofs.Ranges.{range_or}
use Rattle.regions.proofs.region.bytes.Goals as goal

pub returns-in_default : goal.returns-in_default
unfolding spec.bytes pick
returns-in_default c = search rules

pub returns : goal.returns
unfolding spec.bytes pick
returns c = rw (c.unwrap_or.ensures, c.in-Ok.is) (range_or c.args.s.now c.in-Ok.b c.in-Ok.e c.get.result _ refl c.get.ensures.lookup.0)
