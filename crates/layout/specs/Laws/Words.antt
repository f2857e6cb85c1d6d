-- A number that a word can hold is that word.
use Rattle.std.specs.Prelude.{◌≡◌, ℕ, ◌^◌, ◌<◌}
use Rattle.std.proofs.Common.{mod-eq_of_lt}
use Rattle.layout.specs.Words.{word32}

pub word_same : (n : ℕ) → n < 2 ^ 32 → word32 n ≡ n
word_same n h = mod-eq_of_lt h
