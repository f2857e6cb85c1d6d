-- Records of a fixed number of words, one after the other, each of which begins with a number that those before it must not have: axis
-- entries and cells. What is kept is how many there are, and their words.
use Rattle.std.specs.Prelude.{◌≡◌, refl, List, [], ◌∷◌, map, ℕ, zero, suc, ◌+◌, ◌*◌, ◌≤◌, ◌<◌, length, drop, set, get_or}
use Rattle.std.proofs.Common.{sym, ap, ◌∙◌, subst, mul-suc, add-one, arith, length-set, get_or-set_same, get_or-set_other}
use Rattle.std.proofs.lemmas.List.Edits.{sets}
use Rattle.layout.specs.Step.{Step}
use Rattle.std.specs.Prelude.{Ok, Err}
use Rattle.grammar.specs.Layout.{Layout, Tree}
use Rattle.grammar.specs.Rule.{Rule, items}
use Rattle.grammar.specs.Laws.Layout.Check.{check}
use Rattle.layout.specs.Keeps.{Out, on, off, Keeps, Each, each_none, each_more}
use Rattle.layout.specs.Steps.Keeping.{kept_on, kept_off, Going, going, goes_on, goes_no, goes_to}
use Rattle.grammar.specs.RecordWords.{word, firsts}
use Rattle.grammar.specs.Records.{sum, rows_words}
use Rattle.grammar.specs.Laws.Table.Words.{sets_append}

-- an answer of the code, once there are j, and the words with it
abbrev pub row_of : ℕ → Step → List ℕ → Out (ℕ × List ℕ)
row_of j (Ok p) ws = on p (j, ws)
row_of j (Err (r, p)) ws = off r p

-- ---- first words

-- words set from a place on leave those before it
pub before : (ws : List ℕ) (i : ℕ) (vs : List ℕ) (m : ℕ) → m < i → get_or (sets ws i vs) m 0 ≡ get_or ws m 0
before ws i [] m h = refl
before ws i (v ∷ vs) m h = before (set ws i v) (suc i) vs m (omega arith) ∙ get_or-set_other ws i m v 0 (λ e. omega arith)

-- and the first of them stands at the place
pub first_set : (ws : List ℕ) (i v : ℕ) (vs : List ℕ) → i < length ws → get_or (sets ws i (v ∷ vs)) i 0 ≡ v
first_set ws i v vs h = before (set ws i v) (suc i) vs i (omega arith) ∙ get_or-set_same ws i v 0 h

pub second_set : (ws : List ℕ) (i u v : ℕ) (vs : List ℕ) → i + 1 < length ws → get_or (sets ws i (u ∷ v ∷ vs)) (i + 1) 0 ≡ v
second_set ws i u v vs h = rw (add-one i) (first_set (set ws i u) (suc i) v vs (omega (arith, length-set ws i u)))

pub firsts_before : (step : ℕ) → 0 < step → (ws : List ℕ) (i : ℕ) (vs : List ℕ) (k : ℕ) → step * k ≤ i → firsts step (sets ws i vs) k ≡ firsts step ws k
unfolding firsts word
firsts_before step pos ws i vs zero h = refl
firsts_before step pos ws i vs (suc k) h =
    let e = mul-suc step k in
    rw (before ws i vs (step * k) (omega arith), firsts_before step pos ws i vs k (omega arith))

-- one record more: its first word comes before those of the others
firsts_more : (step : ℕ) → 0 < step → (ws : List ℕ) (j v : ℕ) (vs : List ℕ) → step * j + step ≤ length ws
    → firsts step (sets ws (step * j) (v ∷ vs)) (j + 1) ≡ v ∷ firsts step ws j
unfolding firsts word
firsts_more step pos ws j v vs h =
    rw (add-one j) (rw (first_set ws (step * j) v vs (omega arith), firsts_before step pos ws (step * j) (v ∷ vs) j (omega arith)))

-- ---- records

-- so many words: a number, and others
pub record Kind (a : Layout) : Type 0 where
  pub width : ℕ
  pub size : Tree a → ℕ
  pub number : Tree a → ℕ
  pub others : ℕ → Tree a → List ℕ
  pub some : 0 < width
  pub all : (at : ℕ) (t : Tree a) → suc (length (others at t)) ≡ width

abbrev pub words : {a : Layout} → Kind a → ℕ → Tree a → List ℕ
words k at t = k.number t ∷ k.others at t

-- a record at the place `at`: its words come after those in x
pub record Row {a : Layout} (k : Kind a) (at : ℕ) (x : ℕ × List ℕ) (t : Tree a) (p : ℕ) (y : ℕ × List ℕ) : Type 0 where
  pub place : p ≡ at + k.size t
  pub count : y.0 ≡ x.0 + 1
  pub stored : y.1 ≡ sets x.1 (k.width * x.0) (words k at t)

pub record Rows {a : Layout} (k : Kind a) (at : ℕ) (x : ℕ × List ℕ) (ts : List (Tree a)) (p : ℕ) (y : ℕ × List ℕ) : Type 0 where
  pub place : p ≡ at + sum k.size ts
  pub count : y.0 ≡ x.0 + length ts
  pub stored : y.1 ≡ sets x.1 (k.width * x.0) (rows_words k.size (words k) at ts)

pub all_rows : {a : Layout} (k : Kind a) {at : ℕ} {x : ℕ × List ℕ} {ts : List (Tree a)} {p : ℕ} {y : ℕ × List ℕ} → Each (Row k) at x ts p y → Rows k at x ts p y
unfolding sum rows_words
all_rows k each_none = record { place = omega arith; count = omega arith; stored = refl }
all_rows k {at} {x} {y = y} (each_more {t = t} {p = m} {y = z} {ts = ts} {q = e} q r) =
    let n : Rows k m z ts e y = all_rows k r in
    let i : k.width * x.0 + suc (length (k.others at t)) ≡ k.width * z.0 = rw (k.all at t, q.count, add-one x.0) (sym (mul-suc k.width x.0)) in
    record {
      place = omega (arith, n.place, q.place);
      count = omega (arith, n.count, q.count);
      stored = n.stored ∙ rw (sets_append (words k at t), i, ← q.stored, ← q.place);
    }

-- ---- a loop over n records, each by a rule that asks for the numbers before it

module _ {a : Layout} (k : Kind a) (u : List ℕ → Rule a) where
  abbrev pub after : List (Tree a) → Rule a
  after done = u (map k.number done)

  module _ (s : List ℕ) (n at : ℕ) (ws : List ℕ) where
    -- after i of them
    pub record Storing (i at' : ℕ) (ws' : List ℕ) : Type 0 where
      pub done : List (Tree a)
      pub seen : firsts k.width ws' i ≡ map k.number done
      pub most : i ≤ n
      pub going : Going s after (Row k) n at (0, ws) i at' (i, ws') done

    pub storing : Storing 0 at ws
    unfolding firsts
    storing = record { done = []; seen = refl; most = omega arith; going = going s after (Row k) n at (0, ws) }

    abbrev pub All : Out (ℕ × List ℕ) → Type 0
    All = Keeps s (Each (Row k) at (0, ws)) (check (items {n = n} after) (drop at s) at)

    module _ {i at' : ℕ} {ws' : List ℕ} (w : Storing i at' ws') where
      abbrev Next_row : Out (ℕ × List ℕ) → Type 0
      Next_row = Keeps s (Row k at' (i, ws')) (check (u (firsts k.width ws' i)) (drop at' s) at')

      pub stores_on : i < n → {p : ℕ} {vs : List ℕ} → k.width * i + k.width ≤ length ws' → Next_row (on p (i + 1, vs)) → Storing (i + 1) p vs
      stores_on h {p} {vs} room r₀ =
          let r = kept_on (rw w.seen at r₀) in
          let t = r.tree in
          let e = firsts_more k.width k.some ws' i (k.number t) (k.others at' t) room in
          record {
            done = t ∷ w.done;
            seen = ap (λ (l : List ℕ). firsts k.width l (i + 1)) r.keeps.stored ∙ e ∙ ap (λ (l : List ℕ). k.number t ∷ l) w.seen;
            most = omega arith;
            going = goes_on s after (Row k) w.going h r.is r.keeps;
          }

      pub stores_off : i < n → {m p : ℕ} → Next_row (off m p) → All (off m p)
      stores_off h r = goes_no s after (Row k) w.going h (rw w.seen at (kept_off r))

      pub stores_to : n ≤ i → All (on at' (n, ws'))
      stores_to h =
          let e : i ≡ n = omega (arith, w.most) in
          subst (λ (j : ℕ). All (on at' (j, ws'))) e (goes_to s after (Row k) w.going h)
