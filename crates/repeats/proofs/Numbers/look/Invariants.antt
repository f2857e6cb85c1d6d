-- The loop walks down a tree: two steps for each place whose number is another, at most 16 of them.
use Rattle.std.proofs.Common.{◌≡◌, ℕ, ◌*◌, ◌-◌, length}
use Rattle.grammar.specs.Repeat.{strided}
use Rattle.repeats.specs.Laws.Places.{Search}
use Rattle.repeats.proofs.Numbers.look.Given as goal

abbrev pub invariant-loop-steps : goal.invariant-loop-steps
invariant-loop-steps l =
    (level : ℕ) × (length l.slots ≡ length l.initial.slots) × (l.steps ≡ 2 * level) × Search (strided l.self.step l.self.words.now) l.k l.slots l.x l.slot l.rest level

abbrev pub decreases-loop-steps : goal.decreases-loop-steps
decreases-loop-steps l = 40 - l.steps
