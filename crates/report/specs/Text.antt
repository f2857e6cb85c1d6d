-- A text in a buffer: what a function that prints leaves there, and what it answers.
use Rattle.std.specs.Prelude.{ℕ, suc, zero, ◌+◌, ◌≤◌, ◌^◌, ◌≡◌, cond, List, [], ◌++◌, leb, ltb, length, take, drop}
use Rattle.io.specs.Counts.{IsPrefixLen}
use Rattle.io.specs.Digits.{last_digits}

-- the buffer with xs at a place, and all else as it was
abbrev pub pasted : List ℕ → ℕ → List ℕ → List ℕ
pasted b at xs = take at b ++ xs ++ drop (at + length xs) b

-- xs is put at a place of the buffer b, where there is room for it; the answer is the place after it
pub record Puts (xs b : List ℕ) (at : ℕ) (b' : List ℕ) (r : ℕ) : Type 0 where
  pub buffer : b' ≡ pasted b at xs
  pub next : r ≡ at + length xs
  pub room : at + length xs ≤ length b

-- the text that is printed into the buffer b: xs, or nothing where b has fewer bytes than the longest such text
abbrev pub fitting : ℕ → List ℕ → List ℕ → List ℕ
fitting most b xs = cond (leb most (length b)) xs []

-- that text stands at the start of the buffer, all else is as it was, and the answer is its length
pub record Printed (most : ℕ) (xs b b' : List ℕ) (r : ℕ) : Type 0 where
  pub text : Puts (fitting most b xs) b 0 b' r
  pub count : IsPrefixLen r b'

-- the first number of digits, from k on, that n takes
abbrev pub places : ℕ → ℕ → ℕ → ℕ
places zero k n = k
places (suc more) k n = cond (ltb n (10 ^ k)) k (places more (suc k) n)

-- a number below 10 ^ 20 in decimal, with no zeros in front
unfoldable pub decimal : ℕ → List ℕ
decimal n = last_digits 10 (places 19 1 n) n
