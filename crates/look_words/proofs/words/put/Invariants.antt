-- The invariant: what is left to put, from here on, leads to what all the words lead to.
use Rattle.std.proofs.Common.{◌≡◌, length, drop, Ok}
use Rattle.store.specs.Put.{State, put_words}
use Rattle.look_words.proofs.words.put.Given as goal

abbrev pub invariant-loop-i : goal.invariant-loop-i
invariant-loop-i l =
    (length l.out ≡ length l.initial.out)
    × (◌≡◌ {A = State} (put_words (drop l.i l.words) (l.out, Ok l.at)) (put_words l.words (l.initial.out, Ok l.initial.at)))
