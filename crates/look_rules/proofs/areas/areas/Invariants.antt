use Rattle.std.proofs.Common.{◌-◌}
use Rattle.refusals.specs.Numbers.{by_number}
use Rattle.look_rules.specs.StyleRule.{MostAreasRule}
use Rattle.look_rules.proofs.Laws.Walk.{Left}
use Rattle.look_rules.proofs.areas.areas.Given as goal

abbrev pub invariant-loop : goal.invariant-loop
invariant-loop l = Left MostAreasRule l.s l.n (by_number l.initial.st) (l.n - l.counter) (by_number l.st)
