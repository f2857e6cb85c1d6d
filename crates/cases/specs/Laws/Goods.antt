-- Which states are good, and what a good one stands for.
use Rattle.std.specs.Prelude.{◌≡◌, refl, Bool, true, false, [], ◌∷◌, ◌++◌, ℕ, suc, ◌+◌, ◌-◌, ◌*◌, ◌/◌, ◌%◌, ◌^◌, ◌≤◌, ◌<◌, eqb, ltb}
use Rattle.std.proofs.Common.{sym, ap, ◌∙◌, pow-suc, add-one, arith, ltb-true, ltb-false, lt-ltb}
use Rattle.sizes.specs.Basics.{le, pick}
use Rattle.grammar.specs.Laws.Layout.Digits.{length_le}
use Rattle.case_stream.specs.Stream.{block_code}
use Rattle.case_stream.specs.Machine.{gather, acting, stopped, after, gathered}
use Rattle.case_state.specs.declared.Cursor.{Cursor}
use Rattle.case_state.specs.Cursor.{gather_at, act_at, rest_at, stop_of, view, Counts, Good, StoppedBy}
use Rattle.cases.specs.Steps.{gather_byte, passed}
use Rattle.cases.specs.Laws.Digits.{le_snoc, snoc_in}
use Rattle.case_state.proofs.Laws.Counting.{counts_first}

-- ---- 1. the three kinds of state

pub good_gather : (count at n l x : ℕ) → at < count → l ≡ n % 8 → at ≤ n - l → x < 256 ^ l → Good count (gather_at at n l x)
good_gather count at n l x h₁ h₂ h₃ h₄ = record {
  at_in = h₁;
  codes_in = h₄;
  block_in = omega arith;
  gathers = λ e. (h₂, h₃, refl, refl);
  acts = λ e. absurd (omega arith);
  rests = λ e f. absurd (e refl);
}

pub good_act : (count at n p x l k m : ℕ) → at < count → l ≡ 8 - p % 8 → m ≡ n % 8 → (0 < m → x % 256 ≡ block_code) → Counts count at p n → x < 256 ^ l → k < 256 ^ m
    → Good count (act_at at n p x l k m)
good_act count at n p x l k m h₁ h₂ h₃ h₄ h₅ h₆ h₇ = record {
  at_in = h₁;
  codes_in = h₆;
  block_in = h₇;
  gathers = λ e. absurd (omega arith);
  acts = λ e. (h₂, h₃, h₄, h₅);
  rests = λ e f. absurd (f refl);
}

pub good_rest : (count at n w p : ℕ) → at < count → 1 < w → StoppedBy count at n w p → Good count (rest_at at n w p)
good_rest count at n w p h k s = record {
  at_in = h;
  codes_in = omega arith;
  block_in = omega arith;
  gathers = λ e. absurd (omega arith);
  acts = λ e. absurd (omega arith);
  rests = λ e f. (refl, refl, s);
}

-- ---- 2. what they stand for

module _ (c : Cursor) where
  pub view_gather : c.phase ≡ 0 → view c ≡ gather c.at c.taken (le c.left c.codes)
  unfolding view pick
  view_gather e = rw e

  pub view_acting : c.phase ≡ 1
      → view c ≡ acting c.at c.taken c.place (c.codes % 256) (le (c.left - 1) (c.codes / 256)) (le c.filled c.block)
  unfolding view pick
  view_acting e = rw e

  pub view_stopped : eqb c.phase 0 ≡ false → eqb c.phase 1 ≡ false → view c ≡ stopped c.at c.taken (stop_of c.phase c.place)
  unfolding view pick
  view_stopped e f = rw (e, f)

-- the code after the next one, or the next group
pub view_passed : (c : Cursor) (at n : ℕ) → 0 < c.left → view (passed c at n) ≡ after at n (c.place + 1) (le (c.left - 1) (c.codes / 256))
unfolding view pick after le
view_passed c at n h = by (ltb 1 c.left) refl
  where
    by : (t : Bool) → ltb 1 c.left ≡ t → view (pick t (act_at at n (c.place + 1) (c.codes / 256) (c.left - 1) 0 0) (gather_at at n 0 0))
        ≡ after at n (c.place + 1) (le (c.left - 1) (c.codes / 256))
    by true t =
        let l = ltb-true 1 c.left t in
        let e : c.left - 1 ≡ suc (c.left - 2) = omega arith in
        let e' : suc (c.left - 2) - 1 ≡ c.left - 2 = omega arith in
        rw e (rw e')
    by false t =
        let l = ltb-false 1 c.left t in
        let e : c.left - 1 ≡ 0 = omega arith in
        rw e

-- the codes that are left after one has acted: `more` says how the counts go on where there are any
pub good_passed : (count : ℕ) (c : Cursor) (at n : ℕ) → at < count → c.left ≡ 8 - c.place % 8 → n % 8 ≡ 0 → at ≤ n → c.codes < 256 ^ c.left
    → (c.place % 8 < 7 → Counts count at (c.place + 1) n) → Good count (passed c at n)
unfolding pick
good_passed count c at n h l z q x more = by (ltb 1 c.left) refl
  where
    by : (t : Bool) → ltb 1 c.left ≡ t → Good count (pick t (act_at at n (c.place + 1) (c.codes / 256) (c.left - 1) 0 0) (gather_at at n 0 0))
    by true t =
        let l₁ = ltb-true 1 c.left t in
        let e : c.left ≡ suc (c.left - 1) = omega arith in
        let x₁ : c.codes < 256 ^ (c.left - 1) * 256 = rw (e, pow-suc) at x in
        good_act count at n (c.place + 1) (c.codes / 256) (c.left - 1) 0 0 h (omega arith) (omega arith) (λ k. absurd (omega arith)) (more (omega arith)) (omega arith) (omega arith)
    by false t = good_gather count at n 0 0 h (omega arith) (omega arith) (omega arith)

-- ---- 3. a group's codes with one more

pub view_eight : (at n x : ℕ) → after at (n + 8) n (le 8 x) ≡ view (act_at at (n + 8) n x 8 0 0)
unfolding view pick after le
view_eight at n x = refl

gathered_eight : (at n x : ℕ) → gathered at (n + 1) (le 8 x) ≡ view (act_at at (n + 1) (n - 7) x 8 0 0)
unfolding view pick after gathered le
gathered_eight at n x = let f : n + 1 - 8 ≡ n - 7 = omega arith in rw f

pub view_gathered : (c : Cursor) (b : ℕ) → c.left < 8 → c.codes < 256 ^ c.left → b < 256
    → view (gather_byte c b) ≡ gathered c.at (c.taken + 1) (le c.left c.codes ++ b ∷ [])
unfolding view pick after gathered le
view_gathered c b l x h = rw (← (le_snoc c.left c.codes b x h)) (by (ltb c.left 7) refl)
  where
    y : ℕ
    y = c.codes + b * 256 ^ c.left

    by : (t : Bool) → ltb c.left 7 ≡ t → view (pick t (gather_at c.at (c.taken + 1) (c.left + 1) y) (act_at c.at (c.taken + 1) (c.taken - 7) y 8 0 0))
        ≡ gathered c.at (c.taken + 1) (le (suc c.left) y)
    by true t =
        let l₁ = ltb-true c.left 7 t in
        rw (length_le (suc c.left) y, lt-ltb (suc c.left) 8 (omega arith), add-one c.left)
    by false t =
        let l₁ = ltb-false c.left 7 t in
        let e : suc c.left ≡ 8 = omega arith in
        sym (ap (λ (w : ℕ). gathered c.at (c.taken + 1) (le w y)) e ∙ gathered_eight c.at c.taken y)

pub good_gathered : (count : ℕ) (c : Cursor) (b : ℕ) → c.at < count → c.left ≡ c.taken % 8 → c.at ≤ c.taken - c.left → c.codes < 256 ^ c.left → b < 256 → Good count (gather_byte c b)
unfolding pick
good_gathered count c b h l n x k = by (ltb c.left 7) refl (snoc_in c.left c.codes b x k)
  where
    y : ℕ
    y = c.codes + b * 256 ^ c.left

    by : (t : Bool) → ltb c.left 7 ≡ t → y < 256 ^ (c.left + 1) → Good count (pick t
        (gather_at c.at (c.taken + 1) (c.left + 1) y) (act_at c.at (c.taken + 1) (c.taken - 7) y 8 0 0))
    by true t q =
        let l₁ = ltb-true c.left 7 t in
        good_gather count c.at (c.taken + 1) (c.left + 1) y h (omega arith) (omega arith) q
    by false t q =
        let l₁ = ltb-false c.left 7 t in
        let e : c.left + 1 ≡ 8 = omega arith in
        let m : c.taken + 1 ≡ c.taken - 7 + 8 = omega arith in
        let s : Counts count c.at (c.taken - 7) (c.taken + 1) = rw m (counts_first count c.at (c.taken - 7) h (omega arith) (omega arith)) in
        good_act count c.at (c.taken + 1) (c.taken - 7) y 8 0 0 h (omega arith) (omega arith) (λ j. absurd (omega arith)) s (rw e at q) (omega arith)
