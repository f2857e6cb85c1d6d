-- T-05: the state between calls, one step of a call, and a call. A state holds nothing stale: no code that has acted, no byte of a block
-- that is written.
use Rattle.std.specs.Prelude.{Bool, true, false, List, [], ◌∷◌, ◌++◌, ℕ, zero, suc, ◌+◌, ◌-◌, ◌*◌, ◌%◌, ltb, length, get_or}
use Rattle.sizes.specs.Basics.{pick}
use Rattle.case_stream.specs.Stream.{Element, limit, Stop, ended, bad, full, Says, skip, finish, block, wrong, gives, says}

-- Each begins with the position in the case and the number of bytes taken.
-- `gather`: a group's codes so far, fewer than eight. `acting`: the place of the next code, that code, those behind it in the group, and
-- the bytes of its block so far, fewer than eight.
pub data State : Type 0 where
  gather : ℕ → ℕ → List ℕ → State
  acting : ℕ → ℕ → ℕ → ℕ → List ℕ → List ℕ → State
  stopped : ℕ → ℕ → Stop → State

-- how many elements still fit
pub data Room : Type 0 where
  fits : ℕ → Room
  endless : Room

unfoldable pub has : Room → Bool
has (fits zero) = false
has (fits (suc r)) = true
has endless = true

unfoldable pub less : Room → List Element → Room
less (fits r) es = fits (r - length es)
less endless es = endless

-- a step of a call: it halts, or goes on with a state, the bytes not yet taken, and what was written
pub data Step : Type 0 where
  halts : Step
  goes : State → List ℕ → List Element → Step

-- the next code, or the next group
unfoldable pub after : ℕ → ℕ → ℕ → List ℕ → State
after at n p [] = gather at n []
after at n p (c ∷ cs) = acting at n p c cs []

unfoldable pub gathered : ℕ → ℕ → List ℕ → State
gathered at n g = pick (ltb (length g) 8) (gather at n g) (after at n (n - 8) g)

-- the next byte is needed: it is taken, or it is the byte too many
unfoldable pub takes : ℕ → ℕ → List ℕ → (ℕ → List ℕ → Step) → Step
takes at n [] k = halts
takes at n (b ∷ bs) k = pick (ltb n limit) (k b bs) (goes (stopped at n full) (b ∷ bs) [])

module _ (kinds : List ℕ) (bias : ℕ) where
  unfoldable pub next : ℕ → ℕ
  next at = (at + 1) % length kinds

  unfoldable pub blocked : ℕ → ℕ → ℕ → ℕ → List ℕ → List ℕ → List ℕ → Step
  blocked at n p c cs k bs = pick (ltb (length k) 8) (goes (acting at n p c cs k) bs []) (goes (after (next at) n (p + 1) cs) bs (k ∷ []))

  unfoldable pub acts : Says → ℕ → ℕ → ℕ → ℕ → List ℕ → List ℕ → List ℕ → Step
  acts skip at n p c cs k s = goes (after at n (p + 1) cs) s []
  acts finish at n p c cs k s = goes (stopped at n ended) s []
  acts wrong at n p c cs k s = goes (stopped at n (bad p)) s []
  acts (gives e) at n p c cs k s = goes (after (next at) n (p + 1) cs) s (e ∷ [])
  acts block at n p c cs k s = takes at n s (λ b bs. blocked at (n + 1) p c cs (k ++ b ∷ []) bs)

  unfoldable pub moves : State → List ℕ → Step
  moves (gather at n g) s = takes at n s (λ b bs. goes (gathered at (n + 1) (g ++ b ∷ [])) bs [])
  moves (acting at n p c cs k) s = acts (says (get_or kinds at 0) bias c) at n p c cs k s
  moves (stopped at n w) s = halts

  -- "while no further element fits it takes no byte and acts on no code"
  unfoldable pub step : State → List ℕ → Room → Step
  step t s r = pick (has r) (moves t s) halts

-- ---- a call

-- the state, the bytes not taken, what was written
pub data Out : Type 0 where
  out : State → List ℕ → List Element → Out

unfoldable pub put : List Element → Out → Out
put es (out t s fs) = out t s (es ++ fs)

-- each step makes this smaller
unfoldable pub weight : State → ℕ
weight (gather at n g) = 9 + length g
weight (acting at n p c cs k) = 11 + length cs
weight (stopped at n w) = 0

module _ (kinds : List ℕ) (bias : ℕ) where
  unfoldable pub iterate : ℕ → State → List ℕ → Room → Out
  iterate zero t s r = out t s []
  iterate (suc k) t s r = elim (step kinds bias t s r) [
    | halts ↦ out t s []
    | goes t' s' es ↦ put es (iterate k t' s' (less r es))
  ]

  unfoldable pub feed : State → List ℕ → Room → Out
  feed t s r = iterate (10 * length s + weight t) t s r

  -- with endless room
  abbrev pub run : State → List ℕ → Out
  run t s = feed t s endless

abbrev pub start : State
start = gather 0 0 []
