-- A part of some bytes, by whether it lies inside.
use Rattle.std.specs.Prelude.{◌≡◌, List, [], ℕ, ◌+◌, ◌-◌, ◌≤◌, ◌<◌, length, take, drop}
use Rattle.std.proofs.Math.Nat.{add-sub_cancel_left}
use Rattle.std.proofs.Common.{le-leb}
use Rattle.std.proofs.lemmas.Bool.{lt-leb}
use Rattle.sizes.specs.Basics.{pick}
use Rattle.grammar.specs.Part.{part_of}

pub part_inside : (s : List ℕ) (place n : ℕ) → place + n ≤ length s → take (place + n - place) (drop place s) ≡ part_of s place n
unfolding part_of pick
part_inside s place n h = rw (le-leb (place + n) (length s) h, add-sub_cancel_left)

pub part_outside : (s : List ℕ) (place n : ℕ) → length s < place + n → [] ≡ part_of s place n
unfolding part_of pick
part_outside s place n h = rw (lt-leb (place + n) (length s) h)
