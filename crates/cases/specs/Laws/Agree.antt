-- The code's steps are the machine's.
use Rattle.std.proofs.Math.Path.{◌≡◌, refl}
use Rattle.std.proofs.Common.{sym, ap, ◌∙◌, mod-lt, mod-eq_of_lt, arith}
use Rattle.std.specs.Prelude.{Bool, true, false, eqb, ltb, get_or, Option, None}
use mathlib.Core.List.{List, [], ◌∷◌}
use Prim.Native.Nat.{ℕ, suc, ◌+◌, ◌-◌, ◌*◌, ◌/◌, ◌%◌, ◌^◌, ◌≤◌, ◌<◌}
use Rattle.std.proofs.Math.Nat.{mod-le, mod_self}
use Rattle.std.proofs.Math.Numerals.{add-one}
use borrow.Author.Tests.{eqb-true, ltb-true, ltb-false, lt-ltb, le-ltb}
use Rattle.sizes.specs.Basics.{le, pick}
use Rattle.grammar.specs.Laws.Layout.Digits.{length_le}
use Rattle.case_stream.specs.Stream.{limit, block_code, Says, skip, finish, block, wrong, gives, says, value, numeric, string}
use Rattle.case_stream.specs.Machine.{acting, goes, after, takes, next, blocked, acts, moves}
use Rattle.case_state.specs.declared.Cursor.{Cursor}
use Rattle.cases.specs.declared.steps.Moved.{Moved}
use Rattle.case_state.specs.Cursor.{stop_of, view, Counts, Good, by_252, by_22, by_7}
use Rattle.cases.specs.Steps.{gather_byte, passed, block_byte, stop_at, offered, elements_of, step_of, silent, writing, Advances}
use Rattle.cases.specs.Laws.Digits.{le_snoc, snoc_in}
use Rattle.case_state.proofs.Laws.Counting.{counts_skip, counts_gives, counts_block, counts_byte, counts_place}
use Rattle.cases.specs.Laws.Goods.{good_act, good_rest, good_passed, good_gathered, view_gather, view_acting, view_stopped, view_passed, view_gathered}

-- ---- 1. 253, and no other code, says that a block follows

pub block_says : (kind bias c : ℕ) → c ≡ block_code → says kind bias c ≡ block
unfolding says pick
block_says kind bias c e = rw e

data Blockless : Says → Type 0 where
  b_wrong : Blockless wrong
  b_gives : {e : List ℕ} → Blockless (gives e)

blockless_pick : (b : Bool) {x y : Says} → Blockless x → Blockless y → Blockless (pick b x y)
unfolding pick
blockless_pick true h k = h
blockless_pick false h k = k

value_blockless : (kind bias c : ℕ) → Blockless (value kind bias c)
unfolding value numeric string
value_blockless kind bias c = blockless_pick (eqb kind 0)
    (blockless_pick (eqb c 255) b_gives (blockless_pick (eqb c 254) b_wrong b_gives))
    (blockless_pick (eqb c 254) b_gives (blockless_pick (ltb c 252) (blockless_pick (eqb c bias) b_gives b_wrong) b_wrong))

no_block : (x : Says) → Blockless x → x ≡ block → ⊥
no_block skip x3 e = elim x3 [ ]
no_block finish x4 e = elim x4 [ ]
no_block block x5 e = elim x5 [ ]
no_block wrong b_wrong e = let z : ◌≡◌ {A = ℕ} 0 1 = cc in omega arith
no_block (gives el) b_gives e = let z : ◌≡◌ {A = ℕ} 0 1 = cc in omega arith

pub says_block : (kind bias c : ℕ) → says kind bias c ≡ block → c ≡ block_code
unfolding says pick
says_block kind bias c h = by (eqb c 0) (eqb c 252) (eqb c 253) refl h
  where
    by : (x y z : Bool) → eqb c 253 ≡ z → pick x skip (pick y finish (pick z block (value kind bias c))) ≡ block → c ≡ block_code
    by x y true e h = eqb-true c 253 e
    by true y false e h = cc h
    by false true false e h = cc h
    by false false false e h = absurd (no_block (value kind bias c) (value_blockless kind bias c) h)

-- ---- 2. the steps

module _ (kind count bias : ℕ) (c : Cursor) (b : ℕ) (g : Good count c) where
  abbrev At : Bool → Option Moved → Type 0
  At more m = Advances kind count bias c more b m

  pub resting : (more : Bool) → eqb c.phase 0 ≡ false → eqb c.phase 1 ≡ false → At more None
  unfolding step_of pick moves
  resting more e f = record { moved = tt; is = λ kinds l k s. rw (view_stopped c e f) }

  pub waiting : c.phase ≡ 0 → At false None
  unfolding step_of pick moves takes offered
  waiting e = record { moved = tt; is = λ kinds l k s. rw (view_gather c e) }

  pub gather_full : c.taken ≤ limit → c.phase ≡ 0 → ltb c.taken limit ≡ false → At true (silent (stop_at c 7 0) 0)
  unfolding step_of elements_of pick moves takes offered view stop_of
  gather_full u e f =
      let n : c.taken ≡ limit = omega (arith, ltb-false c.taken limit f) in
      record { moved = (omega arith, good_rest count c.at c.taken 7 0 g.at_in (omega arith) (by_7 n)); is = λ kinds l k s. rw (e, f) }

  pub gathering : b < 256 → c.phase ≡ 0 → ltb c.taken limit ≡ true → At true (silent (gather_byte c b) 1)
  unfolding step_of elements_of pick moves takes offered
  gathering h e f =
      let q = g.gathers e in
      let l₈ : c.left < 8 = omega (arith, q.0) in
      record {
        moved = (omega arith, good_gathered count c b g.at_in q.0 q.1 g.codes_in h);
        is = λ kinds l k s. rw (view_gather c e, f, view_gathered c b l₈ g.codes_in h);
      }

  module _ (e₁ : c.phase ≡ 1) where
    abbrev rest : List ℕ
    rest = le (c.left - 1) (c.codes / 256)

    shape : (c.left ≡ 8 - c.place % 8) × (c.filled ≡ c.taken % 8) × (0 < c.filled → c.codes % 256 ≡ block_code) × Counts count c.at c.place c.taken
    shape = g.acts e₁

    some_left : 0 < c.left
    some_left = omega (arith, shape.0)

    -- a code that is no 253 has no byte of a block, so groups and blocks are whole
    unbegun : {y : Says} → says kind bias (c.codes % 256) ≡ y → (y ≡ block → ⊥) → c.taken % 8 ≡ 0
    unbegun {y} e other = by (ltb 0 c.filled) refl
      where
        by : (t : Bool) → ltb 0 c.filled ≡ t → c.taken % 8 ≡ 0
        by true t = absurd (other (sym e ∙ block_says kind bias (c.codes % 256) (shape.2 (ltb-true 0 c.filled t))))
        by false t = omega (arith, shape.1, ltb-false 0 c.filled t)

    room_before : (c.at ≤ c.place) × (c.place - c.place % 8 + 8 ≤ c.taken - c.taken % 8)
    room_before = counts_place shape.3

    acting_is : (y : Says) → says kind bias (c.codes % 256) ≡ y → (kinds : List ℕ) → get_or kinds c.at 0 ≡ kind → (s : List ℕ)
        → moves kinds bias (view c) s ≡ acts kinds bias y c.at c.taken c.place (c.codes % 256) rest (le c.filled c.block) s
    unfolding moves
    acting_is y e kinds k s = rw (view_acting c e₁, k, e)

    pub skipping : (more : Bool) → says kind bias (c.codes % 256) ≡ skip → At more (silent (passed c c.at c.taken) 0)
    unfolding acts step_of elements_of pick
    skipping more e = record {
      moved = (omega arith, good_passed count c c.at c.taken g.at_in shape.0 (unbegun e (λ q. let z : ◌≡◌ {A = ℕ} 0 1 = cc in omega arith)) (omega (arith, room_before)) g.codes_in (λ h. counts_skip h shape.3));
      is = λ kinds l k s. acting_is skip e kinds k (offered more b s) ∙ rw (view_passed c c.at c.taken some_left);
    }

    pub finishing : (more : Bool) → says kind bias (c.codes % 256) ≡ finish → At more (silent (stop_at c 252 0) 0)
    unfolding acts step_of elements_of pick view stop_of
    finishing more e = record {
      moved = (omega arith, good_rest count c.at c.taken 252 0 g.at_in (omega arith) (by_252 (unbegun e (λ q. let z : ◌≡◌ {A = ℕ} 0 1 = cc in omega arith)) (omega (arith, room_before))));
      is = λ kinds l k s. acting_is finish e kinds k (offered more b s);
    }

    pub refusing : (more : Bool) → says kind bias (c.codes % 256) ≡ wrong → At more (silent (stop_at c 22 c.place) 0)
    unfolding acts step_of elements_of pick view stop_of
    refusing more e = record {
      moved = (omega arith, good_rest count c.at c.taken 22 c.place g.at_in (omega arith) (by_22 c.place (unbegun e (λ q. let z : ◌≡◌ {A = ℕ} 0 1 = cc in omega arith)) shape.3));
      is = λ kinds l k s. acting_is wrong e kinds k (offered more b s);
    }

    in_case : (c.at + 1) % count < count
    in_case = mod-lt (c.at + 1) (omega (arith, g.at_in))

    -- the position after an element is at most the number of codes by then
    pub next_in : (c.at + 1) % count ≤ c.taken
    next_in = omega (arith, mod-le (c.at + 1) count, room_before)

    pub giving : (more : Bool) (x : ℕ) → says kind bias (c.codes % 256) ≡ gives (le 8 x) → At more (writing (passed c ((c.at + 1) % count) c.taken) 0 x)
    unfolding acts step_of elements_of pick next
    giving more x e = record {
      moved = (omega arith, good_passed count c ((c.at + 1) % count) c.taken in_case shape.0 (unbegun e (λ q. let z : ◌≡◌ {A = ℕ} 0 1 = cc in omega arith)) next_in g.codes_in (λ h. counts_gives h shape.3));
      is = λ kinds l k s. acting_is (gives (le 8 x)) e kinds k (offered more b s) ∙ rw (l, view_passed c ((c.at + 1) % count) c.taken some_left);
    }

    pub block_waiting : says kind bias (c.codes % 256) ≡ block → At false None
    unfolding acts step_of pick takes offered
    block_waiting e = record { moved = tt; is = λ kinds l k s. acting_is block e kinds k [] }

    pub block_full : c.taken ≤ limit → says kind bias (c.codes % 256) ≡ block → ltb c.taken limit ≡ false → At true (silent (stop_at c 7 0) 0)
    unfolding acts step_of elements_of pick takes offered view stop_of
    block_full u e f =
        let n : c.taken ≡ limit = omega (arith, ltb-false c.taken limit f) in
        record {
          moved = (omega arith, good_rest count c.at c.taken 7 0 g.at_in (omega arith) (by_7 n));
          is = λ kinds l k s. acting_is block e kinds k (b ∷ s) ∙ rw f;
        }

    pub blocking : b < 256 → says kind bias (c.codes % 256) ≡ block → ltb c.taken limit ≡ true → ltb c.filled 7 ≡ true → At true (silent (block_byte c b) 1)
    unfolding acts step_of elements_of pick takes offered blocked
    blocking h e f m =
        let short = ltb-true c.filled 7 m in
        let snoc = le_snoc c.filled c.block b g.block_in h in
        record {
          moved = (
            omega arith,
            good_act count c.at (c.taken + 1) c.place c.codes c.left (c.block + b * 256 ^ c.filled) (c.filled + 1)
                g.at_in shape.0 (omega (arith, shape.1)) (λ q. says_block kind bias (c.codes % 256) e) (counts_byte (omega (arith, shape.1)) shape.3)
                g.codes_in (snoc_in c.filled c.block b g.block_in h),
          );
          is = λ kinds l k s. acting_is block e kinds k (b ∷ s)
              ∙ rw (f, ← snoc, length_le (suc c.filled) (c.block + b * 256 ^ c.filled), lt-ltb (suc c.filled) 8 (omega arith)) (view_block s);
        }
      where
        view_block : (s : List ℕ) → goes (acting c.at (c.taken + 1) c.place (c.codes % 256) rest (le (suc c.filled) (c.block + b * 256 ^ c.filled))) s []
            ≡ goes (view (block_byte c b)) s []
        view_block s = rw (view_acting (block_byte c b) refl, add-one c.filled)

    -- a block's last m bytes are taken
    pub good_block : (m : ℕ) → c.taken % 8 + m ≡ 8 → Good count (passed c ((c.at + 1) % count) (c.taken + m))
    good_block m h = good_passed count c ((c.at + 1) % count) (c.taken + m) in_case shape.0 (omega arith) (omega (arith, next_in)) g.codes_in
        (λ q. counts_block m q h shape.3)

    pub written : b < 256 → says kind bias (c.codes % 256) ≡ block → ltb c.taken limit ≡ true → ltb c.filled 7 ≡ false
        → At true (writing (passed c ((c.at + 1) % count) (c.taken + 1)) 1 (c.block + b * 256 ^ c.filled))
    unfolding acts step_of elements_of pick takes offered blocked next
    written h e f m =
        let long = ltb-false c.filled 7 m in
        let l₈ : suc c.filled ≡ 8 = omega (arith, shape.1) in
        let snoc = le_snoc c.filled c.block b g.block_in h in
        record {
          moved = (omega arith, good_block 1 (omega (arith, shape.1)));
          is = λ kinds l k s. acting_is block e kinds k (b ∷ s)
              ∙ rw (f, ← snoc, length_le (suc c.filled) (c.block + b * 256 ^ c.filled), le-ltb (suc c.filled) 8 (omega arith), l, view_passed c ((c.at + 1) % count) (c.taken + 1) some_left) (ap (λ (w : ℕ). goes (after ((c.at + 1) % count) (c.taken + 1) (c.place + 1) rest) s (le w (c.block + b * 256 ^ c.filled) ∷ [])) l₈);
        }

-- ---- 3. for the needs of the code

pub follow_in : (a n : ℕ) → a + 1 < n → a + 1 ≡ (a + 1) % n
follow_in a n h = sym (mod-eq_of_lt h)

pub follow_over : (a n : ℕ) → a < n → n ≤ a + 1 → 0 ≡ (a + 1) % n
follow_over a n h k = let e : a + 1 ≡ n = omega arith in rw e (sym (mod_self n))

-- the next code's place is no last number, and a block has fewer than eight bytes
pub place_in : (count : ℕ) (c : Cursor) → Good count c → c.phase ≡ 1 → c.taken ≤ limit → c.place < limit
place_in count c g e h = let q = g.acts e in omega (arith, counts_place q.3)

pub filled_in : (count : ℕ) (c : Cursor) → Good count c → c.phase ≡ 1 → c.filled < 8
filled_in count c g e = let q = g.acts e in omega (arith, q.1)

pub left_in : (count : ℕ) (c : Cursor) → Good count c → c.phase ≡ 0 → (c.left < 8) × (c.left ≤ c.taken)
left_in count c g e = let q = g.gathers e in (omega (arith, q.0), omega (arith, q.0))
