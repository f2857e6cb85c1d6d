-- Reading the words of a state back gives the state: so a call goes on where the one before it stopped.
use Rattle.std.specs.Prelude.{◌≡◌, refl, Bool, true, false, List, [], ◌∷◌, ◌++◌, ℕ, zero, suc, ◌-◌, ◌/◌, ◌%◌, ◌^◌, ◌≤◌, ◌<◌, min, eqb, leb, length, get_or}
use Rattle.std.proofs.Common.{sym, ◌∙◌, append-nil}
use native.Mathlib.Omega.{arith}
use borrow.Author.Tests.{eqb-true, eqb-false, leb-true, leb-false}
use Rattle.sizes.specs.Basics.{pick}
use Rattle.layout.specs.Laws.Words.{word_same}
use Rattle.case_state.specs.declared.Cursor.{Cursor}
use Rattle.case_state.specs.declared.State.{State}
use Rattle.case_state.specs.Cursor.{Good}
use Rattle.case_state.specs.Tests.{kinds_ok, rest_ok, state_ok}
use Rattle.case_state.proofs.Laws.Tests.{both}
use Rattle.case_state.proofs.Laws.Valid.{state_parts}
use Rattle.cases.specs.Steps.{firsts}
use Rattle.cases.specs.Laws.Lasting.{firsts_of}
use Rattle.cases_words.specs.StateWords.{head_words, state_words_of, joint, narrowed, kinds_of, cursor_of, state_of}

-- ---- kinds

narrowed_same : (l : List ℕ) → ((i : ℕ) → i < length l → get_or l i 0 ≤ 255) → narrowed l ≡ l
unfolding narrowed
narrowed_same [] h = refl
narrowed_same (x ∷ l) h =
    let first : min x 255 ≡ x = let k = h 0 (omega arith) in omega arith in
    rw (first, narrowed_same l (λ i k. h (suc i) (omega arith)))

-- a test of each number below n, one after the other: so the tests of kinds are made
each_passes : (test tests : ℕ → Bool) → ((n : ℕ) → tests (suc n) ≡ pick (test n) (tests n) false) → (n : ℕ) → tests n ≡ true → (i : ℕ) → i < n → test i ≡ true
each_passes test tests step zero e i h = absurd (omega arith)
each_passes test tests step (suc n) e i h =
    let p = both (test n) (tests n) (sym (step n) ∙ e) in
    go (eqb i n) refl p.0 (λ k. each_passes test tests step n p.1 i k)
  where
    go : (b : Bool) → eqb i n ≡ b → test n ≡ true → (i < n → test i ≡ true) → test i ≡ true
    go true t p before = rw (eqb-true i n t) p
    go false t p before = before (omega (arith, eqb-false i n t))

known_at : (n : ℕ) (l : List ℕ) → kinds_ok n l ≡ true → (i : ℕ) → i < n → get_or l i 0 ≤ 1
unfolding kinds_ok
known_at n l e i h = leb-true (get_or l i 0) 1 (each_passes (λ j. leb (get_or l j 0) 1) (λ k. kinds_ok k l) (λ k. refl) n e i h)

none_at : (n : ℕ) (l : List ℕ) → rest_ok n l ≡ true → (j : ℕ) → j < n → get_or l (256 - suc j) 0 ≡ 0
unfolding rest_ok
none_at n l e j h = eqb-true (get_or l (256 - suc j) 0) 0 (each_passes (λ j. eqb (get_or l (256 - suc j) 0) 0) (λ k. rest_ok k l) (λ k. refl) n e j h)

module _ (s : State) (ok : state_ok s ≡ true) where
  -- each kind is a byte
  small_kind : (i : ℕ) → i < 256 → get_or s.kinds i 0 ≤ 255
  small_kind i h = go (leb s.count i) refl
    where
      go : (b : Bool) → leb s.count i ≡ b → get_or s.kinds i 0 ≤ 255
      go false t = omega (arith, known_at s.count s.kinds (state_parts s ok).known i (leb-false s.count i t))
      go true t =
          let e : 256 - suc (255 - i) ≡ i = omega arith in
          let z = none_at (256 - s.count) s.kinds (state_parts s ok).no_more (255 - i) (omega (arith, leb-true s.count i t)) in
          omega (arith, rw e at z)

  -- at most eight codes are held, and at most eight bytes of a block
  few_held : (s.cursor.left ≤ 8) × (s.cursor.filled ≤ 8)
  few_held = go (eqb c.phase 0) refl (eqb c.phase 1) refl
    where
      c : Cursor
      c = s.cursor

      g : Good s.count s.cursor
      g = (state_parts s ok).good

      go : (a : Bool) → eqb s.cursor.phase 0 ≡ a → (b : Bool) → eqb s.cursor.phase 1 ≡ b → (s.cursor.left ≤ 8) × (s.cursor.filled ≤ 8)
      go true t b u = let p = g.gathers (eqb-true s.cursor.phase 0 t) in (omega (arith, p.0), omega (arith, p.3))
      go false t true u = let p = g.acts (eqb-true s.cursor.phase 1 u) in (omega (arith, p.0), omega (arith, p.1))
      go false t false u = let p = g.rests (eqb-false s.cursor.phase 0 t) (eqb-false s.cursor.phase 1 u) in (omega (arith, p.0), omega (arith, p.1))

  -- the words of a state that passes, and what stands behind them in the area
  pub state_back : (rest : List ℕ) → length s.kinds ≡ 256 → state_of (state_words_of s ++ rest) ≡ s
  unfolding state_of state_words_of head_words cursor_of kinds_of
  state_back rest n =
      let p = state_parts s ok in
      let few = leb-true s.count 256 p.few in
      let all : firsts 256 s.kinds ≡ s.kinds = rw (n, append-nil) at (firsts_of s.kinds []) in
      let front : firsts 256 (s.kinds ++ rest) ≡ s.kinds = rw n at (firsts_of s.kinds rest) in
      let kinds_are : narrowed (firsts 256 (firsts 256 s.kinds ++ rest)) ≡ s.kinds = rw (all, front) (narrowed_same s.kinds (λ i h. small_kind i (omega (arith, h, n)))) in
      let count-is = word_same s.count (omega (arith, few)) in
      let at_is = word_same s.cursor.at (omega (arith, few, p.good.at_in)) in
      let left_is = word_same s.cursor.left (omega (arith, few_held.0)) in
      let Filled-is = word_same s.cursor.filled (omega (arith, few_held.1)) in
      let codes_are : joint (s.cursor.codes % 2 ^ 32) (s.cursor.codes / 2 ^ 32) ≡ s.cursor.codes = omega arith in
      let block_is : joint (s.cursor.block % 2 ^ 32) (s.cursor.block / 2 ^ 32) ≡ s.cursor.block = omega arith in
      rw (kinds_are, count-is, at_is, left_is, Filled-is, codes_are, block_is)
