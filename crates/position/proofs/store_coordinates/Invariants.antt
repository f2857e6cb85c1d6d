-- The loop keeps what is at each place at last: the coordinate of what is left of the position, or what was there.
use Rattle.std.proofs.Common.{◌≡◌, ℕ, length, drop}
use Rattle.grammar.specs.RecordWords.{word}
use Rattle.position.specs.Laws.Turned.{placed}
use Rattle.position.specs.Laws.Accepted.{Axis}
use Rattle.position.proofs.store_coordinates.Given as goal

abbrev pub invariant-loop-e : goal.invariant-loop-e
invariant-loop-e l =
    (length l.xs ≡ length l.initial.xs)
    × Axis l.ns 0 (drop l.e-index l.axis)
    × ((e : ℕ) → placed (word l.ns) (drop l.e-index l.axis) l.rest l.xs e ≡ placed (word l.ns) l.axis l.k l.initial.xs e)
