-- The tests of a state ask just what `Good` says: they pass exactly the good ones.
use Rattle.std.proofs.Math.Path.{◌≡◌, refl}
use Rattle.std.proofs.Common.{ap, ◌∙◌, add-one, drop-cons, drop_of_length-le}
use Rattle.std.proofs.lemmas.List.Folds.{list_all_more}
use Rattle.std.specs.Prelude.{Bool, ◌&&◌, List, [], ◌∷◌, ◌↔◌, leb, get_or, length, take, drop}
use Rattle.std.specs.List.{list_all}
use Rattle.std.proofs.Math.Bool.{true, false}
use Prim.Native.Nat.{ℕ, zero, suc, ◌-◌, ◌%◌, ◌^◌, ◌≤◌, ◌<◌, min}
use native.Mathlib.Omega.{arith}
use Rattle.std.proofs.Math.Dec.{eqb}
use borrow.Author.Tests.{eqb-true, eqb-false, leb-true, ltb-true, lt-ltb, le-leb, eq-eqb}
use Rattle.sizes.specs.Basics.{pick}
use Rattle.case_stream.specs.Stream.{limit, block_code, most_kinds, most_bias, string_kind}
use Rattle.case_state.specs.declared.Cursor.{Cursor}
use Rattle.case_state.specs.declared.State.{State}
use Rattle.case_state.specs.Cursor.{Good, Stopped, StoppedBy, by_252, by_22, by_7}
use Rattle.case_state.specs.Tests.{gather_ok, block_ok, acting_ok, ended_ok, bad_ok, full_ok, stop_ok, resting_ok, cursor_ok, kinds_ok, rest_ok, state_ok}
use Rattle.case_state.proofs.Laws.Tests.{both}
use Rattle.case_state.proofs.Laws.Counting.{counts_sound, counts_complete}

module _ (count : ℕ) (c : Cursor) (in_case : c.at < count) where
  -- ---- 1. what passes is good

  gather_sound : c.phase ≡ 0 → gather_ok c ≡ true → Good count c
  unfolding gather_ok
  gather_sound p t =
      let t₁ = both _ _ t in let t₂ = both _ _ t₁.1 in let t₃ = both _ _ t₂.1 in let t₄ = both _ _ t₃.1 in let t₅ = both _ _ t₄.1 in
      let l₁ = eqb-true c.left (c.taken % 8) t₁.0 in let l₂ = leb-true c.at (c.taken - c.taken % 8) t₂.0 in
      let l₃ = eqb-true c.place 0 t₃.0 in let l₄ = eqb-true c.filled 0 t₄.0 in let l₅ = eqb-true c.block 0 t₅.0 in
      record {
        at_in = in_case;
        codes_in = ltb-true c.codes (256 ^ c.left) t₅.1;
        block_in = rw (l₄, l₅) (omega arith);
        gathers = λ q. (l₁, omega arith, l₃, l₄);
        acts = λ q. absurd (omega arith);
        rests = λ q r. absurd (q p);
      }

  begun : block_ok c ≡ true → 0 < c.filled → c.codes % 256 ≡ block_code
  unfolding block_ok pick
  begun t h = by (eqb c.filled 0) refl t
    where
      by : (b : Bool) → eqb c.filled 0 ≡ b → pick b true (eqb (c.codes % 256) block_code) ≡ true → c.codes % 256 ≡ block_code
      by true e t = absurd (omega (arith, eqb-true c.filled 0 e))
      by false e t = eqb-true (c.codes % 256) block_code t

  acting_sound : c.phase ≡ 1 → acting_ok count c ≡ true → Good count c
  unfolding acting_ok
  acting_sound p t =
      let t₁ = both _ _ t in let t₂ = both _ _ t₁.1 in let t₃ = both _ _ t₂.1 in let t₄ = both _ _ t₃.1 in let t₅ = both _ _ t₄.1 in
      let l₁ = eqb-true c.left (8 - c.place % 8) t₁.0 in let l₂ = eqb-true c.filled (c.taken % 8) t₂.0 in
      record {
        at_in = in_case;
        codes_in = ltb-true c.codes (256 ^ c.left) t₅.0;
        block_in = ltb-true c.block (256 ^ c.filled) t₄.0;
        gathers = λ q. absurd (omega arith);
        acts = λ q. (l₁, l₂, begun t₃.0, counts_sound count c.at in_case c.place c.taken t₅.1);
        rests = λ q r. absurd (r p);
      }

  ended_sound : c.phase ≡ 252 → ended_ok c ≡ true → Stopped count c
  unfolding ended_ok
  ended_sound e t =
      let t₁ = both _ _ t in let t₂ = both _ _ t₁.1 in
      let s : StoppedBy count c.at c.taken 252 0 = by_252 (eqb-true (c.taken % 8) 0 t₂.0) (ltb-true c.at c.taken t₂.1) in
      rw (e, eqb-true c.place 0 t₁.0) s

  bad_sound : c.phase ≡ 22 → bad_ok count c ≡ true → Stopped count c
  unfolding bad_ok
  bad_sound e t =
      let t₁ = both _ _ t in
      rw e (by_22 c.place (eqb-true (c.taken % 8) 0 t₁.0) (counts_sound count c.at in_case c.place c.taken t₁.1))

  full_sound : c.phase ≡ 7 → full_ok c ≡ true → Stopped count c
  unfolding full_ok
  full_sound e t =
      let t₁ = both _ _ t in
      let s : StoppedBy count c.at c.taken 7 0 = by_7 (eqb-true c.taken limit t₁.1) in
      rw (e, eqb-true c.place 0 t₁.0) s

  stop_sound : stop_ok count c ≡ true → Stopped count c
  unfolding stop_ok pick
  stop_sound t = by (eqb c.phase 22) (eqb c.phase 252) (eqb c.phase 7) refl refl refl t
    where
      by : (x y z : Bool) → eqb c.phase 22 ≡ x → eqb c.phase 252 ≡ y → eqb c.phase 7 ≡ z
          → pick x (bad_ok count c) (pick y (ended_ok c) (pick z (full_ok c) false)) ≡ true → Stopped count c
      by true y z e f g t = bad_sound (eqb-true c.phase 22 e) t
      by false true z e f g t = ended_sound (eqb-true c.phase 252 f) t
      by false false true e f g t = full_sound (eqb-true c.phase 7 g) t
      by false false false e f g t = let n : ◌≡◌ {A = ℕ} 0 1 = cc in absurd (omega arith)

  resting_sound : (c.phase ≡ 0 → ⊥) → (c.phase ≡ 1 → ⊥) → resting_ok count c ≡ true → Good count c
  unfolding resting_ok
  resting_sound p q t =
      let t₁ = both _ _ t in let h₁ = both _ _ t₁.0 in let h₂ = both _ _ h₁.1 in let h₃ = both _ _ h₂.1 in
      let l₁ = eqb-true c.left 0 h₁.0 in let l₂ = eqb-true c.codes 0 h₂.0 in
      let l₃ = eqb-true c.filled 0 h₃.0 in let l₄ = eqb-true c.block 0 h₃.1 in
      record {
        at_in = in_case;
        codes_in = rw (l₁, l₂) (omega arith);
        block_in = rw (l₃, l₄) (omega arith);
        gathers = λ e. absurd (p e);
        acts = λ e. absurd (q e);
        rests = λ e f. (l₁, l₃, stop_sound t₁.1);
      }

  -- ---- 2. what is good passes

  block_complete : (0 < c.filled → c.codes % 256 ≡ block_code) → block_ok c ≡ true
  unfolding block_ok pick
  block_complete h = by (eqb c.filled 0) refl
    where
      by : (b : Bool) → eqb c.filled 0 ≡ b → pick b true (eqb (c.codes % 256) block_code) ≡ true
      by true e = refl
      by false e = let n = eqb-false c.filled 0 e in eq-eqb (c.codes % 256) block_code (h (some c.filled n))
        where
          some : (n : ℕ) → (n ≡ 0 → ⊥) → 0 < n
          some zero f = absurd (f refl)
          some (suc n) f = omega arith

  stopped_complete : {w p : ℕ} → c.phase ≡ w → c.place ≡ p → StoppedBy count c.at c.taken w p → stop_ok count c ≡ true
  unfolding stop_ok ended_ok bad_ok full_ok pick
  stopped_complete f g (by_252 a b) = rw f (rw (eq-eqb c.place 0 g, eq-eqb (c.taken % 8) 0 a) (lt-ltb c.at c.taken b))
  stopped_complete f g (by_22 p a b) = rw f (rw (eq-eqb (c.taken % 8) 0 a, g) (counts_complete count c.at in_case p c.taken b))
  stopped_complete f g (by_7 a) = rw f (rw (eq-eqb c.place 0 g) (eq-eqb c.taken limit a))

  complete_by : (a b : Bool) → eqb c.phase 0 ≡ a → eqb c.phase 1 ≡ b → Good count c → pick a (gather_ok c) (pick b (acting_ok count c) (resting_ok count c)) ≡ true
  unfolding pick gather_ok acting_ok resting_ok
  complete_by true b e f g =
      let q = g.gathers (eqb-true c.phase 0 e) in
      let k : c.block < 256 ^ 0 = rw q.3 at g.block_in in
      let z : c.block ≡ 0 = omega arith in
      let l : c.at ≤ c.taken - c.taken % 8 = rw q.0 at q.1 in
      rw (eq-eqb c.left (c.taken % 8) q.0, le-leb c.at (c.taken - c.taken % 8) l, eq-eqb c.place 0 q.2, eq-eqb c.filled 0 q.3, eq-eqb c.block 0 z) (lt-ltb c.codes (256 ^ c.left) g.codes_in)
  complete_by false true e f g =
      let q = g.acts (eqb-true c.phase 1 f) in
      rw (eq-eqb c.left (8 - c.place % 8) q.0, eq-eqb c.filled (c.taken % 8) q.1, block_complete q.2, lt-ltb c.block (256 ^ c.filled) g.block_in, lt-ltb c.codes (256 ^ c.left) g.codes_in)
      (counts_complete count c.at in_case c.place c.taken q.3)
  complete_by false false e f g =
      let q = g.rests (eqb-false c.phase 0 e) (eqb-false c.phase 1 f) in
      let k : c.block < 256 ^ 0 = rw q.1 at g.block_in in
      let l : c.codes < 256 ^ 0 = rw q.0 at g.codes_in in
      rw (eq-eqb c.left 0 q.0, eq-eqb c.codes 0 (omega arith), eq-eqb c.filled 0 q.1, eq-eqb c.block 0 (omega arith))
      (stopped_complete refl refl q.2)

  by_phase : (a b : Bool) → eqb c.phase 0 ≡ a → eqb c.phase 1 ≡ b → pick a (gather_ok c) (pick b (acting_ok count c) (resting_ok count c)) ≡ true → Good count c
  unfolding pick
  by_phase true b e f t = gather_sound (eqb-true c.phase 0 e) t
  by_phase false true e f t = acting_sound (eqb-true c.phase 1 f) t
  by_phase false false e f t = resting_sound (eqb-false c.phase 0 e) (eqb-false c.phase 1 f) t

module _ (count : ℕ) (c : Cursor) where
  pub sound : cursor_ok count c ≡ true → Good count c
  unfolding cursor_ok
  sound t = let u = both _ _ t in by_phase count c (ltb-true c.at count u.0) (eqb c.phase 0) (eqb c.phase 1) refl refl u.1

  pub complete : Good count c → cursor_ok count c ≡ true
  unfolding cursor_ok pick
  complete g = rw (lt-ltb c.at count g.at_in) (complete_by count c g.at_in (eqb c.phase 0) (eqb c.phase 1) refl refl g)

  -- a cursor passes the test exactly if it is good
  pub passes_exactly : (cursor_ok count c ≡ true) ↔ Good count c
  passes_exactly = (sound, complete)

-- ---- 3. kinds

turned : (a b : Bool) → (a && b) ≡ pick b a false
unfolding pick
turned true true = refl
turned true false = refl
turned false true = refl
turned false false = refl

joined : (a b : Bool) → (a && b) ≡ pick a b false
unfolding pick
joined true b = refl
joined false b = refl

-- so many kinds are all that there are
pub kinds_few : (n : ℕ) (l : List ℕ) → leb n most_kinds ≡ true → kinds_ok n l ≡ kinds_ok (min n most_kinds) l
kinds_few n l t = let few : n ≤ most_kinds = leb-true n most_kinds t in ap (λ (k : ℕ). kinds_ok k l) (omega arith)

-- all of the first n kinds pass their test
pub kinds_all : (n : ℕ) (l : List ℕ) → n ≤ length l → list_all (λ k. leb k string_kind) (take n l) ≡ kinds_ok n l
unfolding kinds_ok
kinds_all zero l h = refl
kinds_all (suc n) l h =
    rw add-one at (list_all_more (λ k. leb k string_kind) l n 0 (omega arith)) ∙ rw (kinds_all n l (omega arith)) (turned (kinds_ok n l) (leb (get_or l n 0) string_kind))

-- all of the last n kinds are 0
pub rest_all : (n : ℕ) (l : List ℕ) → length l ≡ most_kinds → n ≤ most_kinds → list_all (λ k. eqb k 0) (drop (most_kinds - n) l) ≡ rest_ok n l
unfolding rest_ok
rest_all zero l h k = let n : length l ≤ most_kinds = omega arith in let e : drop most_kinds l ≡ [] = drop_of_length-le l n in rw e
rest_all (suc n) l h k =
    let e : suc (most_kinds - suc n) ≡ most_kinds - n = omega arith in
    let d : drop (most_kinds - suc n) l ≡ get_or l (most_kinds - suc n) 0 ∷ drop (most_kinds - n) l =
    drop-cons l (most_kinds - suc n) 0 (omega arith) ∙ ap (λ (x : ℕ). get_or l (most_kinds - suc n) 0 ∷ drop x l) e in
    rw (d, rest_all n l h (omega arith)) (joined (eqb (get_or l (most_kinds - suc n) 0) 0) (rest_ok n l))

-- ---- 4. a state

pub record Parts (s : State) : Type 0 where
  pub few : leb s.count most_kinds ≡ true
  pub bias_in : leb s.bias most_bias ≡ true
  pub known : kinds_ok s.count s.kinds ≡ true
  pub no_more : rest_ok (most_kinds - s.count) s.kinds ≡ true
  pub good : Good s.count s.cursor

pub state_parts : (s : State) → state_ok s ≡ true → Parts s
unfolding state_ok
state_parts s e =
    let a = both _ _ e in
    let b = both _ _ a.1 in
    let d = both _ _ b.1 in
    let f = both _ _ d.1 in
    record { few = a.0; bias_in = b.0; known = d.0; no_more = f.0; good = sound s.count s.cursor f.1 }

pub state_sound : (s : State) → state_ok s ≡ true → (s.count ≤ most_kinds) × Good s.count s.cursor
state_sound s e = let p = state_parts s e in (leb-true s.count most_kinds p.few, p.good)

pub bias_sound : (s : State) → state_ok s ≡ true → s.bias ≤ most_bias
bias_sound s e = leb-true s.bias most_bias (state_parts s e).bias_in
