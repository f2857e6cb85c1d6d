-- The product fits: it is at most 2^32 times a word.
use native.Mathlib.Omega.{arith}
use native.Mathlib.Nat.{mul-le-mul}
use mir.Facts.{Fits-le, Fits-lit}
use Rattle.sizes.specs.Sizes.{most_places}
use Rattle.index.proofs.times.Goals as goal

pub overflow_mul-p : goal.overflow_mul-p
overflow_mul-p c = Fits-le (mul-le-mul {m₂ = most_places} c.requires (omega arith)) (Fits-lit tt)
