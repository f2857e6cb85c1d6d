-- T-05 by example: the definitions compute.
use Rattle.std.specs.Prelude.{◌≡◌, refl, [], ◌∷◌}
use Rattle.std.specs.Float.Ieee.{sub, of_int, to_bits}
use Rattle.sizes.specs.Basics.{le, pick}
use Rattle.case_stream.specs.Stream.{double, numeric, string, value, says, with_element, codes, groups, within, meaning, means, stop, ended, bad, missing, spaces, zeros}

pub one : double 101 100 ≡ 0 ∷ 0 ∷ 0 ∷ 0 ∷ 0 ∷ 0 ∷ 240 ∷ 63 ∷ []
unfolding double le to_bits sub of_int
one = refl

pub nought : double 100 100 ≡ zeros
unfolding double le to_bits sub of_int
nought = refl

pub below : double 1 100 ≡ 0 ∷ 0 ∷ 0 ∷ 0 ∷ 0 ∷ 192 ∷ 88 ∷ 192 ∷ []
unfolding double le to_bits sub of_int
below = refl

-- a case of a number and a string; 255, a 0 that is skipped, 254, a block, then 252 and what is never read
pub stream : meaning (0 ∷ 1 ∷ []) 100 (255 ∷ 0 ∷ 254 ∷ 253 ∷ 100 ∷ 252 ∷ 7 ∷ 7 ∷ 1 ∷ 2 ∷ 3 ∷ 4 ∷ 5 ∷ 6 ∷ 7 ∷ 8 ∷ 9 ∷ [])
    ≡ means (missing ∷ spaces ∷ (1 ∷ 2 ∷ 3 ∷ 4 ∷ 5 ∷ 6 ∷ 7 ∷ 8 ∷ []) ∷ zeros ∷ []) 16 (9 ∷ []) (stop ended)
unfolding meaning within groups codes says value numeric string pick with_element
stream = refl

-- 255 in a string element is 22 at its place
pub refused : meaning (0 ∷ 1 ∷ []) 100 (255 ∷ 0 ∷ 255 ∷ 253 ∷ 100 ∷ 252 ∷ 7 ∷ 7 ∷ 1 ∷ []) ≡ means (missing ∷ []) 8 (1 ∷ []) (stop (bad 2))
unfolding meaning within groups codes says value numeric string pick with_element
refused = refl
