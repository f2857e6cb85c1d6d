-- What the zeros that are left give from here on, all of them give.
use Rattle.std.proofs.Common.{◌-◌}
use Rattle.std.specs.Prelude.{replicate}
use Rattle.refusals.specs.Numbers.{by_number}
use Rattle.layout.specs.Step.{Step}
use Rattle.grammar.specs.Layout.{times}
use Rattle.grammar.specs.Conventions.{fixed}
use Rattle.fields.specs.Gives.{GivesTo}
use Rattle.fields.proofs.read.zeros.Given as goal

abbrev pub invariant-loop : goal.invariant-loop
invariant-loop l =
    (r : Step) → GivesTo (times (l.n - l.counter) (fixed 0)) l.s (by_number l.st) r (replicate (l.n - l.counter) (0, tt))
    → GivesTo (times l.n (fixed 0)) l.s (by_number l.initial.st) r (replicate l.n (0, tt))
