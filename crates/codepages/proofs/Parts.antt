-- The n bytes at place i of a text, as a slice.
use Rattle.std.proofs.Common.{◌≡◌, ℕ, ◌+◌, ◌-◌, ◌≤◌, ◌<◌, List, length, get_or, take, drop, ◌∙◌, length-drop, arith}
use Rattle.std.proofs.Math.Seq.{get_or-take, get_or-drop, length-take-le}

module _ (u : List ℕ) (i n : ℕ) (h : i + n ≤ length u) where
  pub part_length : length (take (i + n - i) (drop i u)) ≡ n
  part_length = let z : i + n - i ≡ n = omega arith in rw z (length-take-le n (drop i u) (omega (arith, length-drop i u)))

  pub part_at : (j : ℕ) → j < n → get_or (take (i + n - i) (drop i u)) j 0 ≡ get_or u (i + j) 0
  part_at j l = let z : i + n - i ≡ n = omega arith in rw z (get_or-take n (drop i u) j 0 l ∙ get_or-drop i u j 0)
