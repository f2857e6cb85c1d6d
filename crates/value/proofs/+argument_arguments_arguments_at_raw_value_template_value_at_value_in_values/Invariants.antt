-- The cycle of a value, its template and the loops over arguments and values. The measure is the depth, and who calls whom at one depth. In a
-- loop the bytes that are left fall: the turns until now and the room that is left are no more than the room at the start.
use Rattle.std.proofs.Common.{◌+◌, ◌-◌, ◌*◌, ◌≤◌}
use Rattle.grammar.specs.Value as grammar
use Rattle.std.specs.Prelude.{Ok}
use Rattle.layout.specs.Steps.Chain.{Left}
use Rattle.layout.specs.Steps.Onward.{room}
use Rattle.value.proofs.+argument_arguments_arguments_at_raw_value_template_value_at_value_in_values.Given as goal

abbrev pub decreases-value_at : goal.decreases-value_at
decreases-value_at l = 8 * l.depth

abbrev pub decreases-value_in : goal.decreases-value_in
decreases-value_in l = 8 * l.depth + 1

abbrev pub decreases-values : goal.decreases-values
decreases-values l = 8 * l.depth + 2

abbrev pub decreases-argument : goal.decreases-argument
decreases-argument l = 8 * l.depth + 3

abbrev pub decreases-arguments_at : goal.decreases-arguments_at
decreases-arguments_at l = 8 * l.depth + 4

abbrev pub decreases-arguments : goal.decreases-arguments
decreases-arguments l = 8 * l.depth + 5

abbrev pub decreases-template : goal.decreases-template
decreases-template l = 8 * l.depth + 6

abbrev pub decreases-raw_value : goal.decreases-raw_value
decreases-raw_value l = 8 * l.depth + 7

abbrev pub invariant-arguments_at-loop : goal.invariant-arguments_at-loop
invariant-arguments_at-loop l =
    Left (grammar.Argument l.version l.depth) l.s l.n (Ok l.initial.at) (l.n - l.counter) (Ok l.at)
    × (l.counter + room l.s (Ok l.at) ≤ room l.s (Ok l.initial.at))

abbrev pub invariant-values-loop : goal.invariant-values-loop
invariant-values-loop l =
    Left (grammar.ValueIn l.version l.depth) l.s l.n (Ok l.initial.next) (l.n - l.counter) (Ok l.next)
    × (l.counter + room l.s (Ok l.next) ≤ room l.s (Ok l.initial.next))
