use Rattle.std.proofs.Common.{◌-◌}
use Rattle.refusals.specs.Numbers.{by_number}
use Rattle.look_rules.specs.StyleRule.{separator_rule}
use Rattle.look_rules.proofs.Laws.Walk.{Left}
use Rattle.look_rules.proofs.borders.separators.Given as goal

abbrev pub invariant-loop : goal.invariant-loop
invariant-loop l = Left separator_rule l.s l.n (by_number l.initial.st) (l.n - l.counter) (by_number l.st)
