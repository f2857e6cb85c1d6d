-- Rows of fields of any value, skipped without visiting each.
use Rattle.std.specs.Prelude.{◌≡◌, Bool, List, ℕ, zero, suc, ◌+◌, ◌-◌, ◌*◌, ◌/◌, ◌≤◌, ◌<◌, min, length, take, drop, leb}
use Rattle.std.proofs.Math.Path.{refl, ap, sym}
use Rattle.std.proofs.Common.{◌∙◌, add_assoc, arith, length-drop}
use Rattle.std.proofs.Math.Bool.{true, false}
use Rattle.std.proofs.Math.Nat.{suc-mul, div-eq_of_lt, div-eq-sub-div}
use Rattle.std.proofs.Math.Dec.{eqb}
use borrow.Author.Tests.{leb-true, leb-false, le-leb, lt-leb, eqb-true, eqb-false}
use Rattle.layout.specs.Step.{Step}
use Rattle.std.specs.Prelude.{Ok, Err}
use Rattle.sizes.specs.Basics.{pick}
use Rattle.grammar.specs.Layout.{Order, little, any_number, passes, Layout, empty, number, ◌▸◌, times, undigits}
use Rattle.grammar.specs.Laws.Layout.Read.{got, no, too_short, read_number, read_times, read}
use Rattle.layout.specs.Reads.{step, chain, ReadsTo, verdict, judged, field, fitting, rows}
use Rattle.layout.specs.Steps.Chain.{step_then, step_times, Refuses, refuses, chain_refuses}
use Rattle.layout.specs.Steps.Numbers.{step_tested}

-- a row of such fields, and its size
pub data Flat : Layout → ℕ → Type 0 where
  flat_field : {o : Order} {w : ℕ} → Flat (number o w any_number (λ _. empty)) w
  flat_then : {a b : Layout} {m n : ℕ} → Flat a m → Flat b n → Flat (a ▸ b) (m + n)

field_step : (o : Order) (w : ℕ) (s : List ℕ) (at : ℕ)
    → step (number o w any_number (λ _. empty)) s at ≡ pick (leb w (length s - at)) (Ok (at + w)) (Err (too_short, at))
unfolding field verdict passes pick read_number
field_step o w s at = step_tested o w any_number s at ∙ rw length-drop (go (leb w (length s - at)))
  where
    go : (b : Bool) → judged 0 at (pick b (got (undigits little (take w (drop at s))) (drop w (drop at s)) (at + w)) (no too_short at))
        ≡ pick b (Ok (at + w)) (Err (too_short, at))
    go true = refl
    go false = refl

flat_fits : {a : Layout} {m : ℕ} → Flat a m → (s : List ℕ) (at : ℕ) → m ≤ length s - at → step a s at ≡ Ok (at + m)
unfolding pick chain
flat_fits (flat_field {o} {w}) s at h = field_step o w s at ∙ rw (le-leb w (length s - at) h)
flat_fits (flat_then {a} {b} {m} {n} f g) s at h =
    step_then a b s at
    ∙ rw (flat_fits f s at (omega arith), flat_fits g s (at + m) (omega arith)) (ap Ok (add_assoc at m n))

-- one of the two does not fit
pair_stops : {a : Layout} (b : Layout) {m : ℕ} → Flat a m → (s : List ℕ) (at : ℕ) → (length s - at < m → Refuses (step a s at))
    → (m ≤ length s - at → Refuses (step b s (at + m))) → Refuses (step (a ▸ b) s at)
unfolding chain
pair_stops {a} b {m} f s at first second = rw (step_then a b s at) (go (leb m (length s - at)) refl)
  where
    go : (c : Bool) → leb m (length s - at) ≡ c → Refuses (chain (step a s at) (step b s))
    go true e = let l = leb-true m (length s - at) e in rw (flat_fits f s at l) (second l)
    go false e = let r = first (leb-false m (length s - at) e) in rw (chain_refuses (step b s) r) r

flat_stops : {a : Layout} {m : ℕ} → Flat a m → (s : List ℕ) (at : ℕ) → length s - at < m → Refuses (step a s at)
unfolding pick
flat_stops (flat_field {o} {w}) s at h = rw (field_step o w s at, lt-leb w (length s - at) h) refuses
flat_stops (flat_then {a} {b} {m} {n} f g) s at h = pair_stops b f s at (λ l. flat_stops f s at l) (λ l. flat_stops g s (at + m) (omega arith))

-- n rows are those that fit, and where these are not all, the first that does not
unfoldable Rows : Layout → ℕ → ℕ → List ℕ → ℕ → ℕ → Type 0
Rows a size n s at k = (k ≡ n → step (times n a) s at ≡ Ok (at + n * size)) × (k < n → step (times n a) s at ≡ step a s (at + k * size))

module _ {a : Layout} {size : ℕ} (flat : Flat a size) (s : List ℕ) where
  rows_zero : (at k : ℕ) → k ≤ 0 → Rows a size 0 s at k
  unfolding Rows step read read_times
  rows_zero at k h = (λ e. ap Ok (omega arith), λ l. absurd (omega arith))

  -- the first row fits: k is one more than fit after it
  rows_fits : (n at k : ℕ) → size ≤ length s - at → Rows a size n s (at + size) k → Rows a size (suc n) s at (suc k)
  unfolding Rows chain
  rows_fits n at k h r = (
    λ e. step_times a n s at ∙ rw (flat_fits flat s at h) (r.0 (omega arith) ∙ ap Ok (rw suc-mul (omega arith))),
    λ l. step_times a n s at ∙ rw (flat_fits flat s at h) (r.1 (omega arith) ∙ ap (step a s) (rw suc-mul (omega arith))),
  )

  -- it does not
  rows_stops : (n at : ℕ) → length s - at < size → Rows a size (suc n) s at 0
  unfolding Rows
  rows_stops n at h = (
    λ e. absurd (omega arith),
    λ l. step_times a n s at ∙ chain_refuses (step (times n a) s) (flat_stops flat s at h) ∙ ap (step a s) (omega arith),
  )

  rows_step : 0 < size → (n at : ℕ) → Rows a size n s (at + size) (min n ((length s - (at + size)) / size)) → (c : Bool) → leb size (length s - at) ≡ c
      → Rows a size (suc n) s at (min (suc n) ((length s - at) / size))
  rows_step h n at ih true e =
      let l : size ≤ length s - at = leb-true size (length s - at) e in
      let d : (length s - at) / size ≡ (length s - at - size) / size + 1 = div-eq-sub-div h l in
      let m : length s - at - size ≡ length s - (at + size) = omega arith in
      let k : min (suc n) ((length s - at) / size) ≡ suc (min n ((length s - (at + size)) / size)) = rw (d, m) (omega arith) in
      rw k (rows_fits n at _ l ih)
  rows_step h n at ih false e =
      let l : length s - at < size = leb-false size (length s - at) e in
      let k : min (suc n) ((length s - at) / size) ≡ 0 = rw (div-eq_of_lt l) (omega arith) in
      rw k (rows_stops n at l)

  rows_fit : 0 < size → (n at : ℕ) → Rows a size n s at (min n ((length s - at) / size))
  rows_fit h zero at = rows_zero at _ (omega arith)
  rows_fit h (suc n) at = rows_step h n at (rows_fit h n (at + size)) (leb size (length s - at)) refl

  rows_empty : size ≡ 0 → (n at : ℕ) → Rows a size n s at n
  rows_empty e zero at = rows_zero at 0 (omega arith)
  rows_empty e (suc n) at = rows_fits n at n (omega arith) (rows_empty e n (at + size))

  rows_fitting : (n at : ℕ) → Rows a size n s at (fitting size n s (Ok at)) × (fitting size n s (Ok at) ≤ n)
  unfolding fitting pick
  rows_fitting n at = go (eqb size 0) refl
    where
      go : (c : Bool) → eqb size 0 ≡ c → Rows a size n s at (pick c n (min n ((length s - at) / size))) × (pick c n (min n ((length s - at) / size)) ≤ n)
      go true e = (rows_empty (eqb-true size 0 e) n at, omega arith)
      go false e = (rows_fit (omega (arith, eqb-false size 0 e)) n at, omega arith)

  rows_all_chain : (n : ℕ) (st : Step) → fitting size n s st ≡ n → rows size n s st ≡ chain st (step (times n a) s)
  unfolding chain rows Rows
  rows_all_chain n (Ok at) e = rw e (sym ((rows_fitting n at).0.0 e))
  rows_all_chain n (Err (r, p)) e = refl

  rows_some_chain : (n : ℕ) (st : Step) → (fitting size n s st ≡ n → ⊥) → chain (rows size n s st) (step a s) ≡ chain st (step (times n a) s)
  unfolding chain rows Rows
  rows_some_chain n (Ok at) e = sym ((rows_fitting n at).0.1 (omega (arith, (rows_fitting n at).1)))
  rows_some_chain n (Err (r, p)) e = refl

-- every row fits
pub rows_all : {a : Layout} {size n k : ℕ} {s : List ℕ} {st q : Step} → Flat a size → k ≡ fitting size n s st → q ≡ rows size n s st
    → k ≡ n → ReadsTo (times n a) s st q
rows_all {n = n} {s = s} {st = st} f e g h = record { is = g ∙ rows_all_chain f s n st (sym e ∙ h) }

-- not every row fits
pub rows_some : {a : Layout} {size n k : ℕ} {s : List ℕ} {st q r : Step} → Flat a size → k ≡ fitting size n s st → q ≡ rows size n s st
    → (k ≡ n → ⊥) → ReadsTo a s q r → ReadsTo (times n a) s st r
rows_some {a} {size} {n} {s = s} {st = st} f e g h i = record { is = i.is ∙ rw g (rows_some_chain f s n st (λ x. h (e ∙ x))) }
