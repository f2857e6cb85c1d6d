-- What is written into a buffer first, and handed over once nothing can be refused any more: so a refusal leaves the output as it was.
use Rattle.std.specs.Prelude.{◌≡◌, List, ◌++◌, ℕ, Result, Ok, Err, min, length, take, drop, leb}
use Rattle.refusals.specs.declared.Refusal.{Refusal}
use Rattle.refusals.specs.Numbers.{by_number}
use Rattle.layout.specs.Step.{Step}
use Rattle.sizes.specs.Basics.{pick}
use Rattle.layout.specs.Reads.{chain}
use Rattle.store.specs.Written.{Written}

-- "15 | output too short | 0" (document 01): the length n, where the output has room for as many bytes
unfoldable pub ending : ℕ → ℕ → Step
ending room n = pick (leb n room) (Ok n) (Err (15, 0))

-- what the output holds: the bytes xs, and what it held beyond; a refusal leaves it as it was
unfoldable pub output : Step → List ℕ → List ℕ → List ℕ
output (Ok n) xs out = xs ++ drop n out
output (Err (n, p)) xs out = out

-- what an answer of the code says: it is one of writing
abbrev pub answer : Written → Step
answer r = r

-- the bytes of a buffer b up to a position st, or nothing after a refusal; a position past its end is its end
pub record DeliversTo (b : List ℕ) (st : Step) (out : List ℕ) (r : Step) (out' : List ℕ) : Type 0 where
  pub answers : r ≡ chain st (λ n. ending (length out) (min n (length b)))
  pub holds : (n : ℕ) → st ≡ Ok n → out' ≡ output r (take n b) out
  pub keeps : (n p : ℕ) → st ≡ Err (n, p) → out' ≡ out

-- the same of what code has
abbrev pub Delivers : List ℕ → Result ℕ Refusal → List ℕ → Result ℕ Refusal → List ℕ → Type 0
Delivers b st out r out' = DeliversTo b (by_number st) out (by_number r) out'
