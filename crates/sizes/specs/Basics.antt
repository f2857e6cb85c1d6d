-- What all specifications share: one of two, whether a number is in a list, and the bytes of a number.
use Rattle.std.specs.Prelude.{Bool, true, false, ◌||◌, List, [], ◌∷◌, ℕ, zero, suc, ◌+◌, ◌*◌, ◌/◌, ◌%◌, eqb}

-- one of two, as a bool says
unfoldable pub pick {ℓ} : {X : Type ℓ} → Bool → X → X → X
pick true x y = x
pick false x y = y

-- n is one of these
unfoldable pub among : ℕ → List ℕ → Bool
among n [] = false
among n (k ∷ ks) = eqb n k || among n ks

-- the w bytes of a number, the lowest first
unfoldable pub le : ℕ → ℕ → List ℕ
le zero n = []
le (suc w) n = n % 256 ∷ le w (n / 256)

-- the number that bytes spell, the lowest first
unfoldable pub undigit : List ℕ → ℕ
undigit [] = 0
undigit (b ∷ bs) = b + 256 * undigit bs
