-- What the functions of a step and of a call return: a step of the code is a step of the machine, or eight of them.
use Rattle.std.specs.Prelude.{◌≡◌, Bool, false, List, [], ◌∷◌, ◌++◌, ℕ, zero, suc, ◌+◌, ◌-◌, ◌*◌, ◌/◌, ◌^◌, ◌≤◌, ◌<◌, eqb, leb, ltb, length, drop, get_or, Option, None, Some, MatchOption, IfSome}
use Rattle.std.proofs.lemmas.List.Edits.{sets}
use Rattle.sizes.specs.Basics.{le, pick}
use Rattle.case_stream.specs.Stream.{Element, limit}
use Rattle.case_stream.specs.Machine.{fits, less, Step, halts, goes, moves, out, put, feed}
use Rattle.case_stream.specs.Laws.Steps.{μ}
use Rattle.case_state.specs.declared.Cursor.{Cursor}
use Rattle.cases.specs.declared.steps.Moved.{Moved}
use Rattle.case_state.specs.Cursor.{gather_at, act_at, rest_at, view, Good}

-- ---- 1. the next state

abbrev pub gather_byte : Cursor → ℕ → Cursor
gather_byte c b = pick (ltb c.left 7)
    (gather_at c.at (c.taken + 1) (c.left + 1) (c.codes + b * 256 ^ c.left))
    (act_at c.at (c.taken + 1) (c.taken - 7) (c.codes + b * 256 ^ c.left) 8 0 0)

-- the next code has acted, and the position in the case is `at`
abbrev pub passed : Cursor → ℕ → ℕ → Cursor
passed c at n = pick (ltb 1 c.left) (act_at at n (c.place + 1) (c.codes / 256) (c.left - 1) 0 0) (gather_at at n 0 0)

abbrev pub block_byte : Cursor → ℕ → Cursor
block_byte c b = act_at c.at (c.taken + 1) c.place c.codes c.left (c.block + b * 256 ^ c.filled) (c.filled + 1)

abbrev pub stop_at : Cursor → ℕ → ℕ → Cursor
stop_at c phase place = rest_at c.at c.taken phase place

-- ---- 2. a step

abbrev pub silent : Cursor → ℕ → Option Moved
silent c takes = Some (record { cursor = c; takes = takes; element = None })

abbrev pub writing : Cursor → ℕ → ℕ → Option Moved
writing c takes x = Some (record { cursor = c; takes = takes; element = Some x })

unfoldable pub offered : Bool → ℕ → List ℕ → List ℕ
offered more b s = pick more (b ∷ s) []

-- what it writes
unfoldable pub elements_of : Option ℕ → List Element
elements_of None = []
elements_of (Some x) = le 8 x ∷ []

abbrev pub wrote : Moved → List Element
wrote m = elements_of m.element

unfoldable pub step_of : Option Moved → List ℕ → Step
step_of None s = halts
step_of (Some m) s = goes (view m.cursor) (drop m.takes s) (wrote m)

-- the step of a call in a state whose element has this kind; `more` says whether a byte is offered, and b is that byte
pub record Advances (kind count bias : ℕ) (c : Cursor) (more : Bool) (b : ℕ) (m : Option Moved) : Type 0 where
  pub moved : IfSome m (λ m. (m.takes ≤ pick more 1 0) × Good count m.cursor)
  pub is : (kinds : List ℕ) → length kinds ≡ count → get_or kinds c.at 0 ≡ kind
      → (s : List ℕ) → moves kinds bias (view c) (offered more b s) ≡ step_of m (offered more b s)

-- A step, or eight at once, with the bytes s offered: a call with room goes on from the state that it leaves, with what it writes.
pub record Strode (kind count bias : ℕ) (c : Cursor) (s : List ℕ) (m : Moved) : Type 0 where
  pub good : Good count m.cursor
  pub inside : m.takes ≤ length s
  pub leads : (kinds : List ℕ) → length kinds ≡ count → get_or kinds c.at 0 ≡ kind
      → (r : ℕ) → feed kinds bias (view c) s (fits (suc r)) ≡ put (wrote m) (feed kinds bias (view m.cursor) (drop m.takes s) (less (fits (suc r)) (wrote m)))
  pub falls : (kinds : List ℕ) → length kinds ≡ count → get_or kinds c.at 0 ≡ kind → μ (view m.cursor) (drop m.takes s) < μ (view c) s

-- no step, where the machine has none
pub record Stays (kind count bias : ℕ) (c : Cursor) (s : List ℕ) : Type 0 where
  pub stays : (kinds : List ℕ) → length kinds ≡ count → get_or kinds c.at 0 ≡ kind → moves kinds bias (view c) s ≡ halts

abbrev pub Strides : ℕ → ℕ → ℕ → Cursor → List ℕ → Option Moved → Type 0
Strides kind count bias c s m = MatchOption m (Stays kind count bias c s) (Strode kind count bias c s)

-- a step in which the next code gives the element x, whatever bytes are offered, and leaves d
abbrev pub Given : ℕ → ℕ → ℕ → Cursor → Cursor → ℕ → Type 0
Given kind count bias c d x = (input : List ℕ) (i : ℕ) → Strode kind count bias c (drop i input) (record { cursor = d; takes = 0; element = Some x })

-- eight bytes of a list from a place on
unfoldable pub eight_at : List ℕ → ℕ → List ℕ
eight_at s i = get_or s i 0 ∷ get_or s (i + 1) 0 ∷ get_or s (i + 2) 0 ∷ get_or s (i + 3) 0 ∷ get_or s (i + 4) 0 ∷ get_or s (i + 5) 0 ∷ get_or s (i + 6) 0 ∷ get_or s (i + 7) 0 ∷ []

-- whether the eight bytes of a group or a block, of which so many are held, are among those that are there
unfoldable pub whole : Cursor → ℕ → ℕ → Bool
whole c held rest = pick (leb 8 rest) (pick (leb c.taken (limit - 8)) (eqb held 0) false) false

-- ---- 3. a call

unfoldable pub emitted : List ℕ → ℕ → Option ℕ → List ℕ
emitted o w None = o
emitted o w (Some x) = sets o (8 * w) (le 8 x)

unfoldable pub counted : ℕ → Option ℕ → ℕ
counted n None = n
counted n (Some x) = n + 1

-- the bytes of elements, one after the other
unfoldable pub joined : List Element → List ℕ
joined [] = []
joined (e ∷ es) = e ++ joined es

-- the first n numbers of a list, with 0 for those that aren't there: `take` for a list that is long enough
unfoldable pub firsts : ℕ → List ℕ → List ℕ
firsts zero l = []
firsts (suc n) l = get_or l 0 0 ∷ firsts n (drop 1 l)

-- what a call has done: from the state c₀ and the output o₀ to c and o, with i bytes taken and w elements written
pub record Fed_is (K : List ℕ) (count bias room : ℕ) (c₀ : Cursor) (input o₀ o : List ℕ) (c : Cursor) (i w : ℕ) : Type 0 where
  pub es : List Element
  pub is : feed K bias (view c₀) input (fits room) ≡ out (view c) (drop i input) es
  pub count_es : w ≡ length es
  pub wrote : o ≡ sets o₀ 0 (joined es)
  pub good : Good count c
  pub inside : i ≤ length input
