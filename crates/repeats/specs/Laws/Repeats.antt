-- The laws by which the first repeat is found: what stands before a place is among the first words before it. There is one (`grammar`).
use Rattle.std.proofs.Math.Path.{◌≡◌, refl}
use Rattle.std.proofs.Common.{sym, ◌∙◌, arith, add-one, eqb-true, eq-eqb, ne_eqb, below_more}
use Rattle.std.specs.Prelude.{Bool, true, false, not, ◌||◌, List, eqb, get_or, set, Result, Ok, MatchResult, IfOk}
use Rattle.std.proofs.lemmas.Bool.{false≢true, eqb-false, not-true}
use Prim.Native.Nat.{ℕ, zero, suc, ◌+◌, ◌*◌, ◌≤◌, ◌<◌}
use Rattle.sizes.specs.Basics.{among}
use Rattle.grammar.specs.RecordWords.{word, firsts}
use Rattle.once.specs.Laws.Marks.{Marks, marked}
use Rattle.grammar.specs.Repeat.{strided, Before, FirstRepeat, Answered}

-- ---- one answer

-- More: an answer stays one where more steps were taken, and more are allowed
pub allowed : {w : ℕ → ℕ} {m limit limit' at steps steps' : ℕ}
    → Answered w m limit at steps → steps ≤ steps' → steps' ≤ limit' * m → Answered w m limit' at steps'
allowed a h h' = record { first = a.first; few = h'; counted = omega (arith, a.counted) }

-- ---- place by place

-- the first k numbers are new, each in its turn
abbrev pub AllNew : (ℕ → ℕ) → ℕ → Type 0
AllNew w k = (j : ℕ) → j < k → Before w j (w j) → ⊥

pub none_new : (w : ℕ → ℕ) → AllNew w 0
none_new w j h b = omega arith

pub first_new : (w : ℕ → ℕ) → AllNew w 1
first_new w j h b = omega (arith, b.1)

pub one_more_new : (w : ℕ → ℕ) (k : ℕ) → AllNew w k → (Before w k (w k) → ⊥) → AllNew w (k + 1)
one_more_new w k = below_more (λ j. Before w j (w j) → ⊥) k

-- Found: the first that is not new
pub found_at : (w : ℕ → ℕ) (m k : ℕ) → AllNew w k → k < m → Before w k (w k) → FirstRepeat w m k
found_at w m k a h b = record { within = omega arith; new = a; there = λ _. b }

-- None: all are new
pub none_found : (w : ℕ → ℕ) (m k : ℕ) → AllNew w k → m ≤ k → FirstRepeat w m m
none_found w m k a h = record { within = omega arith; new = λ j l. a j (omega arith); there = λ l. absurd (omega arith) }

-- ---- one number

-- the number x was compared with those at the first k places, one after the other
pub record Compared (w : ℕ → ℕ) (k x : ℕ) (old : Bool) (steps : ℕ) : Type 0 where
  pub few : steps ≤ k
  pub found : old ≡ true → Before w k x
  pub absent : old ≡ false → (Before w k x → ⊥) × (steps ≡ k)

pub same_number : (w : ℕ → ℕ) (k x i steps : ℕ) → steps ≤ k → i < k → w i ≡ x → Compared w k x true steps
same_number w k x i steps s h e = record { few = s; found = λ _. (i, h, e); absent = λ o. absurd (false≢true (sym o)) }

-- none of the first i is x
abbrev pub NoneOf : (ℕ → ℕ) → ℕ → ℕ → Type 0
NoneOf w i x = (j : ℕ) → j < i → w j ≡ x → ⊥

pub none_same : (w : ℕ → ℕ) (k x i steps : ℕ) → steps ≡ i → i ≡ k → NoneOf w i x → Compared w k x false steps
none_same w k x i steps s e n =
    record {
      few = omega arith;
      found = λ o. absurd (false≢true o);
      absent = λ _. ((λ b. n b.0 (omega (arith, b.1)) b.2), omega arith);
    }

-- ---- in ascending order

-- the first k numbers are new, and none is above `last`
pub record Ascends (w : ℕ → ℕ) (last k : ℕ) : Type 0 where
  pub news : AllNew w k
  pub under : (i : ℕ) → i < k → w i ≤ last

pub ascends_first : (w : ℕ → ℕ) {last : ℕ} → last ≡ w 0 → Ascends w last 1
ascends_first w {last} e = record { news = first_new w; under = λ i h. let z : i ≡ 0 = omega arith in rw z (omega arith) }

pub ascends_more : (w : ℕ → ℕ) {last k x : ℕ} → Ascends w last k → x ≡ w k → last < x → Ascends w x (k + 1)
ascends_more w {last} {k} {x} a e h =
    record {
      news = one_more_new w k a.news (λ b. omega (arith, b.2, a.under b.0 b.1));
      under = below_more (λ i. w i ≤ x) k (λ i l. omega (arith, a.under i l)) (omega arith);
    }

-- ---- first words of records

by_last : (w : ℕ → ℕ) (k x : ℕ) (xs : List ℕ) → (among x xs ≡ true → Before w k x) → (b : Bool) → eqb x (w k) ≡ b → (b || among x xs) ≡ true
    → Before w (suc k) x
by_last w k x xs i true e h = (k, omega arith, sym (eqb-true x (w k) e))
by_last w k x xs i false e h = let r = i h in (r.0, omega arith, r.2)

or_true : (b : Bool) → (b || true) ≡ true
or_true true = refl
or_true false = refl

by_place : (w : ℕ → ℕ) (k x i : ℕ) (xs : List ℕ) → (i < k → among x xs ≡ true) → i < suc k → w i ≡ x → (b : Bool) → eqb i k ≡ b
    → (eqb x (w k) || among x xs) ≡ true
by_place w k x i xs r h e true t = rw (eq-eqb x (w k) (sym e ∙ rw (eqb-true i k t)))
by_place w k x i xs r h e false t = let n = eqb-false i k t in rw (r (omega arith)) (or_true (eqb x (w k)))

module _ (step : ℕ) (ws : List ℕ) where
  -- Among: what is among the first words of the first k records stands before place k, and the other way round
  pub among_before : (k x : ℕ) → among x (firsts step ws k) ≡ true → Before (strided step ws) k x
  unfolding among firsts
  among_before zero x h = absurd (let z : ◌≡◌ {A = ℕ} 0 1 = cc in omega arith)
  among_before (suc k) x h = by_last (strided step ws) k x (firsts step ws k) (among_before k x) (eqb x (word ws (step * k))) refl h

  pub before_among : (k x : ℕ) → Before (strided step ws) k x → among x (firsts step ws k) ≡ true
  unfolding among firsts
  before_among zero x b = absurd (omega (arith, b.1))
  before_among (suc k) x b =
      by_place (strided step ws) k x b.0 (firsts step ws k) (λ h. before_among k x (b.0, h, b.2)) b.1 b.2 (eqb b.0 k) refl

  by_among : (k x : ℕ) → (Before (strided step ws) k x → ⊥) → (b : Bool) → among x (firsts step ws k) ≡ b → b ≡ false
  by_among k x n true e = absurd (n (among_before k x e))
  by_among k x n false e = refl

  pub none_among : (k x : ℕ) → (Before (strided step ws) k x → ⊥) → among x (firsts step ws k) ≡ false
  none_among k x n = by_among k x n (among x (firsts step ws k)) refl

  pub not_before : (k x : ℕ) → among x (firsts step ws k) ≡ false → Before (strided step ws) k x → ⊥
  not_before k x e b = false≢true (sym e ∙ before_among k x b)

-- ---- marks

is_true : (b : Bool) → not b ≡ false → b ≡ true
is_true true e = refl
is_true false e = absurd (false≢true (sym e))

-- the numbers at the first k places have their marks
module _ (step : ℕ) (ws : List ℕ) (n k x : ℕ) (marks : List ℕ) (v : Marks n marks (firsts step ws k)) (e : x ≡ strided step ws k) (h : x < n) where
  -- Marked: a number with a mark stands before
  pub marked_old : (get_or marks x 0 ≡ 0 → ⊥) → Before (strided step ws) k (strided step ws k)
  marked_old z = rw e at (among_before step ws k x (is_true (among x (firsts step ws k)) (sym (v.says x h) ∙ ne_eqb (get_or marks x 0) 0 z)))

  -- Not marked: another does not, and gets one
  pub marked_new : get_or marks x 0 ≡ 0 → Before (strided step ws) k (strided step ws k) → ⊥
  marked_new z b = not_before step ws k x (not-true (among x (firsts step ws k)) (sym (v.says x h) ∙ eq-eqb (get_or marks x 0) 0 z)) (rw e b)

  pub one_marked : Marks n (set marks x 1) (firsts step ws (k + 1))
  unfolding firsts
  one_marked = rw (add-one k, ← e) (marked n marks (firsts step ws k) x v h)

-- m numbers were looked for by their marks, up to the first that stands before (or all), or up to one that is too large for a mark. Each
-- before it took three steps: the comparison with the number of marks, the look for its mark, the store of its mark
pub record ByMarks (w : ℕ → ℕ) (m : ℕ) (marked : Result ℕ ℕ) (steps : ℕ) : Type 0 where
  pub few : steps ≤ 3 * m
  pub counted : MatchResult marked (λ at. 3 * at ≤ steps) (λ at. 3 * at ≤ steps)
  pub found : IfOk marked (λ at. Answered w m 3 at steps)

-- Marked: they tell, or another way does after them
module _ {w : ℕ → ℕ} {m steps : ℕ} where
  pub marks_tell : {at : ℕ} → ByMarks w m (Ok at) steps → Answered w m 37 at steps
  marks_tell b = allowed b.found (omega arith) (omega (arith, b.few))

  pub after_marks : {marked : Result ℕ ℕ} → ByMarks w m marked steps → {at' steps' a s : ℕ} → Answered w m 34 at' steps' → (a ≡ at') × (s ≡ steps + steps')
      → Answered w m 37 a s
  after_marks b r e = rw e.0 (allowed r (omega (arith, e.1)) (omega (arith, e.1, b.few, r.few)))

-- Ordered: they are not, and that took a step for each number at most
pub after_order : {w : ℕ → ℕ} {m steps at' steps' a s : ℕ} → steps ≤ m → Answered w m 37 at' steps' → (a ≡ at') × (s ≡ steps + steps')
    → Answered w m 38 a s
after_order h r e = rw e.0 (allowed r (omega (arith, e.1)) (omega (arith, e.1, r.few)))
