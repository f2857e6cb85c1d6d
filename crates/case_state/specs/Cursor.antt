-- The state between calls as the code has it, in numbers: which state of the machine it stands for, and which numbers are a state. (Document 02,
-- T-05: "a state with a number out of range" is 21.)
use Rattle.std.specs.Prelude.{◌≡◌, ◌∷◌, ℕ, ◌+◌, ◌-◌, ◌*◌, ◌/◌, ◌%◌, ◌^◌, ◌≤◌, ◌<◌, eqb, length}
use Rattle.sizes.specs.Basics.{le, undigit, pick}
use Rattle.case_stream.specs.Stream.{limit, block_code, Stop, ended, bad, full}
use Rattle.case_stream.specs.Machine.{State, gather, acting, stopped}
use Rattle.case_state.specs.declared.Cursor.{Cursor}

-- ---- 1. a machine's state in numbers

-- `phase` is 0 where a group's codes are gathered, 1 where they act; where reading has stopped it is 252, or the refusal's number
abbrev pub gather_at : ℕ → ℕ → ℕ → ℕ → Cursor
gather_at at n l x = record { at = at; taken = n; phase = 0; place = 0; codes = x; left = l; block = 0; filled = 0 }

abbrev pub act_at : ℕ → ℕ → ℕ → ℕ → ℕ → ℕ → ℕ → Cursor
act_at at n p x l k m = record { at = at; taken = n; phase = 1; place = p; codes = x; left = l; block = k; filled = m }

abbrev pub rest_at : ℕ → ℕ → ℕ → ℕ → Cursor
rest_at at n w p = record { at = at; taken = n; phase = w; place = p; codes = 0; left = 0; block = 0; filled = 0 }

-- codes and the bytes of a block are numbers, the first of them the lowest byte; what is not in use is 0
unfoldable pub numbers : State → Cursor
numbers (gather at n g) = gather_at at n (length g) (undigit g)
numbers (acting at n p c cs k) = act_at at n p (undigit (c ∷ cs)) (1 + length cs) (undigit k) (length k)
numbers (stopped at n ended) = rest_at at n 252 0
numbers (stopped at n (bad p)) = rest_at at n 22 p
numbers (stopped at n full) = rest_at at n 7 0

-- and the state that numbers stand for
unfoldable pub stop_of : ℕ → ℕ → Stop
stop_of w p = pick (eqb w 252) ended (pick (eqb w 22) (bad p) full)

unfoldable pub view : Cursor → State
view c = pick (eqb c.phase 0) (gather c.at c.taken (le c.left c.codes))
    (pick (eqb c.phase 1) (acting c.at c.taken c.place (c.codes % 256) (le (c.left - 1) (c.codes / 256)) (le c.filled c.block))
    (stopped c.at c.taken (stop_of c.phase c.place)))

-- ---- 2. which numbers are a state

-- Before a code at the place p, with n bytes taken, stand that many elements, and in its own group that many blocks. Groups and blocks begin at
-- multiples of 8, so the group begins at p - p % 8; each element needs a code of its own, and each block before the code is an element.
pub record Counts (count at p n : ℕ) : Type 0 where
  pub elements : ℕ
  pub blocks : ℕ
  pub codes_enough : elements ≤ p
  pub blocks_written : blocks ≤ elements
  pub blocks_before : blocks ≤ p % 8
  pub position : at ≡ elements % count
  pub bytes : n - n % 8 ≡ p - p % 8 + 8 + 8 * blocks

-- reading has stopped: by a code, so at the end of a group or block; or by the byte too many, with all bytes before it taken
pub data StoppedBy (count at n : ℕ) : ℕ → ℕ → Type 0 where
  by_252 : n % 8 ≡ 0 → at < n → StoppedBy count at n 252 0
  by_22 : (p : ℕ) → n % 8 ≡ 0 → Counts count at p n → StoppedBy count at n 22 p
  by_7 : n ≡ limit → StoppedBy count at n 7 0

abbrev pub Stopped : ℕ → Cursor → Type 0
Stopped count c = StoppedBy count c.at c.taken c.phase c.place

-- The numbers of a state, `count` being the number of kinds, that fit together, with nothing stale in it.
pub record Good (count : ℕ) (c : Cursor) : Type 0 where
  pub at_in : c.at < count
  pub codes_in : c.codes < 256 ^ c.left
  pub block_in : c.block < 256 ^ c.filled
  -- a group begins at a multiple of 8, and has at most one element for each byte before it
  pub gathers : c.phase ≡ 0 → (c.left ≡ c.taken % 8) × (c.at ≤ c.taken - c.left) × (c.place ≡ 0) × (c.filled ≡ 0)
  -- the codes left are those from the place on; a block is begun at a 253 alone
  pub acts : c.phase ≡ 1 → (c.left ≡ 8 - c.place % 8) × (c.filled ≡ c.taken % 8) × (0 < c.filled → c.codes % 256 ≡ block_code) × Counts count c.at c.place c.taken
  pub rests : (c.phase ≡ 0 → ⊥) → (c.phase ≡ 1 → ⊥) → (c.left ≡ 0) × (c.filled ≡ 0) × Stopped count c
