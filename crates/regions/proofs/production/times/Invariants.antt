-- What the rounds that are left read from the position to the end, all n read from the start.
use Prim.Native.Nat.{◌-◌}
use Rattle.std.specs.Prelude.{Ok}
use Rattle.layout.specs.Steps.Chain.{Left}
use Rattle.regions.proofs.production.times.Given as goal

abbrev pub invariant-loop : goal.invariant-loop
invariant-loop g l = Left (g.P.Production.layout l.production) l.s l.n (Ok l.initial.at) (l.n - l.counter) (Ok l.at)
