-- Numbers as words.
use Rattle.std.specs.Prelude.{ℕ, ◌%◌, ◌^◌}

-- a number as a 32-bit word
abbrev pub word32 : ℕ → ℕ
word32 n = n % 2 ^ 32
