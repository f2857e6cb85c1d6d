-- The tests of a state that the code makes. proofs/Laws/Valid.antt proves that they ask just what `Good` says.
use Rattle.std.specs.Prelude.{Bool, true, false, List, ℕ, zero, suc, ◌+◌, ◌-◌, ◌*◌, ◌/◌, ◌%◌, ◌^◌, eqb, leb, ltb, get_or}
use Rattle.sizes.specs.Basics.{pick}
use Rattle.case_stream.specs.Stream.{limit, block_code, most_kinds, most_bias, string_kind}
use Rattle.case_state.specs.declared.Cursor.{Cursor}
use Rattle.case_state.specs.declared.State.{State}

abbrev pub nothing_held : Cursor → Bool
nothing_held c = pick (eqb c.left 0) (pick (eqb c.codes 0) (pick (eqb c.filled 0) (eqb c.block 0) false) false) false

-- the blocks that were taken since the group began
abbrev pub blocks_of : ℕ → ℕ → ℕ
blocks_of p n = (n - n % 8 - (p - p % 8 + 8)) / 8

-- the fewest elements, at least that many, after which the position in the case is `at`
abbrev pub fewest : ℕ → ℕ → ℕ → ℕ
fewest count at blocks = at + count * ((blocks - at + (count - 1)) / count)

unfoldable pub counts_ok : ℕ → ℕ → ℕ → ℕ → Bool
counts_ok count at p n = pick (leb (p - p % 8 + 8) (n - n % 8)) (pick (leb (blocks_of p n) (p % 8)) (leb (fewest count at (blocks_of p n)) p) false) false

unfoldable pub gather_ok : Cursor → Bool
gather_ok c = pick (eqb c.left (c.taken % 8)) (pick (leb c.at (c.taken - c.taken % 8)) (pick (eqb c.place 0) (pick (eqb c.filled 0) (pick (eqb c.block 0) (ltb c.codes (256 ^ c.left)) false) false) false) false) false

unfoldable pub block_ok : Cursor → Bool
block_ok c = pick (eqb c.filled 0) true (eqb (c.codes % 256) block_code)

unfoldable pub acting_ok : ℕ → Cursor → Bool
acting_ok count c = pick (eqb c.left (8 - c.place % 8)) (pick (eqb c.filled (c.taken % 8)) (pick (block_ok c) (pick (ltb c.block (256 ^ c.filled)) (pick (ltb c.codes (256 ^ c.left)) (counts_ok count c.at c.place c.taken) false) false) false) false) false

unfoldable pub ended_ok : Cursor → Bool
ended_ok c = pick (eqb c.place 0) (pick (eqb (c.taken % 8) 0) (ltb c.at c.taken) false) false

unfoldable pub bad_ok : ℕ → Cursor → Bool
bad_ok count c = pick (eqb (c.taken % 8) 0) (counts_ok count c.at c.place c.taken) false

unfoldable pub full_ok : Cursor → Bool
full_ok c = pick (eqb c.place 0) (eqb c.taken limit) false

unfoldable pub stop_ok : ℕ → Cursor → Bool
stop_ok count c = pick (eqb c.phase 22) (bad_ok count c) (pick (eqb c.phase 252) (ended_ok c) (pick (eqb c.phase 7) (full_ok c) false))

unfoldable pub resting_ok : ℕ → Cursor → Bool
resting_ok count c = pick (nothing_held c) (stop_ok count c) false

unfoldable pub cursor_ok : ℕ → Cursor → Bool
cursor_ok count c = pick (ltb c.at count) (pick (eqb c.phase 0) (gather_ok c) (pick (eqb c.phase 1) (acting_ok count c) (resting_ok count c))) false

-- the first n kinds are numeric or string
unfoldable pub kinds_ok : ℕ → List ℕ → Bool
kinds_ok zero l = true
kinds_ok (suc n) l = pick (leb (get_or l n 0) string_kind) (kinds_ok n l) false

-- the last n kinds of 256 are 0
unfoldable pub rest_ok : ℕ → List ℕ → Bool
rest_ok zero l = true
rest_ok (suc n) l = pick (eqb (get_or l (most_kinds - suc n) 0) 0) (rest_ok n l) false

unfoldable pub state_ok : State → Bool
state_ok s = pick (leb s.count most_kinds) (pick (leb s.bias most_bias) (pick (kinds_ok s.count s.kinds) (pick (rest_ok (most_kinds - s.count) s.kinds) (cursor_ok s.count s.cursor) false) false) false) false
