-- The part of some bytes at a place and of a length; the empty part if it does not lie inside (document 01, "What the caller gets").
use Rattle.std.specs.Prelude.{List, [], ℕ, ◌+◌, length, take, drop, leb}
use Rattle.sizes.specs.Basics.{pick}

unfoldable pub part_of : List ℕ → ℕ → ℕ → List ℕ
unfolding pick
part_of s place n = pick (leb (place + n) (length s)) (take n (drop place s)) []
