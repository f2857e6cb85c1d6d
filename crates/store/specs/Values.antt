-- The number that stands for a value that is no unsigned number.
use Rattle.std.specs.Prelude.{Bool, true, false, ℕ, ◌-◌, ℤ, pos, negsuc}

-- a bool: 0 or 1
abbrev pub bit : Bool → ℕ
bit true = 1
bit false = 0

-- a signed 32-bit number: "Two's complement decides: -12 is 0xfffffff4" (document 01)
abbrev pub twos : ℤ → ℕ
twos (pos n) = n
twos (negsuc n) = 0xffffffff - n
