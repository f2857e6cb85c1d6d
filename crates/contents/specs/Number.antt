-- The number that the bits of a double are (003: double is IEEE 754's binary64; document 01: "Doubles and floats keep their bits").
use Rattle.std.specs.Prelude.{Bool, true, false, ℕ, Option, Some, None}
use Rattle.std.specs.Float.{binary64}
use Rattle.std.specs.Float.Ieee.{Float, of_bits, nan_bits}
use Rattle.sizes.specs.Basics.{pick}

-- whether there is a number, and the number
pub record Double : Type 0 where
  pub is : Bool
  pub value : Float

-- every bit pattern but a NaN's is a number, infinities too; there is none in the place of a NaN, and 0 is given
unfoldable pub number_of : ℕ → Double
number_of bits = pick (nan_bits binary64 bits) (record { is = false; value = of_bits binary64 0 }) (record { is = true; value = of_bits binary64 bits })

-- what the code gives, so
abbrev pub double_or_0 : Option Float → Double
double_or_0 (Some x) = record { is = true; value = x }
double_or_0 None = record { is = false; value = of_bits binary64 0 }
