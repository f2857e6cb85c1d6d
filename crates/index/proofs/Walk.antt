-- The n of dimensions, one at a time.
use mathlib.Core.Path.{◌≡◌}
use mathlib.Core.List.{List, [], ◌∷◌}
use Prim.Native.Nat.{ℕ, suc, ◌+◌, ◌-◌, ◌*◌, ◌≤◌, ◌<◌}
use native.Mathlib.Omega.{arith}
use Rattle.sizes.specs.Sizes.{dimension_words, dimension_n}
use Rattle.grammar.specs.RecordWords.{word, sizes}

-- those from dimension i to before dimension e
pub at_size : (ws : List ℕ) (i e : ℕ) → i < e → sizes ws i (e - i) ≡ word ws (dimension_words * i + dimension_n) ∷ sizes ws (i + 1) (e - (i + 1))
unfolding sizes
at_size ws i e h = let q : e - i ≡ suc (e - (i + 1)) = omega arith in rw q

pub no_size : (ws : List ℕ) (i e : ℕ) → e ≤ i → sizes ws i (e - i) ≡ []
unfolding sizes
no_size ws i e h = let z : e - i ≡ 0 = omega arith in rw z
