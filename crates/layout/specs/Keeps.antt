-- What a reader that keeps something as it goes answers: where reading by a rule gives a tree, the place after it and what the tree has it
-- keep; where reading refuses, the same refusal.
use Rattle.std.specs.Prelude.{◌≡◌, List, [], ◌∷◌, ℕ, drop}
use Rattle.grammar.specs.Laws.Layout.Read.{Got, got, no}

-- the next place and what is kept, or a refusal's number and place
pub data Out (X : Type 0) : Type 0 where
  on : ℕ → X → Out X
  off : ℕ → ℕ → Out X

-- Q t p x: x is what is kept of the tree t, which ends at p
pub data Keeps {A X : Type 0} (s : List ℕ) (Q : A → ℕ → X → Type 0) : Got A → Out X → Type 0 where
  keeps_on : {t : A} {r : List ℕ} {p : ℕ} {x : X} → r ≡ drop p s → Q t p x → Keeps s Q (got t r p) (on p x)
  keeps_off : {n p : ℕ} → Keeps s Q (no n p) (off n p)

-- Q at x t p y: with the tree t, from `at` to p, what is kept goes from x to y. Each: of trees that follow each other
pub data Each {A X : Type 0} (Q : ℕ → X → A → ℕ → X → Type 0) : ℕ → X → List A → ℕ → X → Type 0 where
  each_none : {at : ℕ} {x : X} → Each Q at x [] at x
  each_more : {at : ℕ} {x : X} {t : A} {p : ℕ} {y : X} {ts : List A} {q : ℕ} {z : X} → Q at x t p y → Each Q p y ts q z → Each Q at x (t ∷ ts) q z
