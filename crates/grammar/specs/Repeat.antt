-- The first repeat among numbers (document 02, T-04): the least place whose number stands at an earlier place too. It says what is to
-- be found, and nothing of how; and how many steps that may take.
use Rattle.std.specs.Prelude.{◌≡◌, List, ℕ, ◌+◌, ◌*◌, ◌≤◌, ◌<◌}
use Rattle.grammar.specs.RecordWords.{word}

-- ---- the numbers

-- the number at place j: the first word of record j of those that have so many words
abbrev pub strided : ℕ → List ℕ → ℕ → ℕ
strided step ws j = word ws (step * j)

-- ---- the first repeat

-- the number x stands at a place before j
abbrev pub Before : (ℕ → ℕ) → ℕ → ℕ → Type 0
Before w j x = (i : ℕ) × (i < j) × (w i ≡ x)

-- of the m numbers w 0, w 1 and so on the one at the place `at` is the first that repeats an earlier one; m where none does
pub record FirstRepeat (w : ℕ → ℕ) (m at : ℕ) : Type 0 where
  pub within : at ≤ m
  pub new : (j : ℕ) → j < at → Before w j (w j) → ⊥
  pub there : at < m → Before w at (w at)

-- An answer with its count (document 02, T-04: "for m cells at most 48 × m comparisons and stores of an index together, each adding 1 to
-- a count from 0"): at most `limit` steps for each of the m numbers, and at least one for each place that was passed but the first,
-- which has none before it.
pub record Answered (w : ℕ → ℕ) (m limit at steps : ℕ) : Type 0 where
  pub first : FirstRepeat w m at
  pub few : steps ≤ limit * m
  pub counted : at ≤ steps + 1
