-- The answers of the code, by its numbers, are those of the machine's state.
use Rattle.std.specs.Prelude.{◌≡◌, refl, Bool, true, false, List, ℕ, zero, suc, ◌+◌, ◌-◌, ◌/◌, ◌%◌, ◌≤◌, ◌<◌, eqb, take, drop, set, get_or, replicate, Err}
use Rattle.std.proofs.Common.{sym, ap, ◌∙◌, add-one, arith, length-take-le, take-suc, eqb-true, ne_eqb}
use Rattle.std.proofs.Math.ListN.{length, length-drop}
use Rattle.std.proofs.lemmas.List.{set_at}
use Rattle.std.proofs.Math.Seq.{append_snoc}
use Rattle.std.proofs.lemmas.Bool.{eqb-false}
use Rattle.sizes.specs.Basics.{le, pick}
use Rattle.grammar.specs.Laws.Layout.Digits.{length_le}
use Rattle.case_stream.specs.Stream.{limit}
use Rattle.case_stream.specs.Machine.{gather, acting, stopped, fits, out}
use Rattle.case_stream.proofs.Laws.Taken.{taken as Taken-of, held, feed_keeps, feed_spends}
use Rattle.case_state.specs.declared.Cursor.{Cursor}
use Rattle.case_state.specs.declared.State.{State}
use Rattle.cases.specs.declared.Call.{Call}
use Rattle.case_state.specs.Cursor.{numbers, stop_of, view, Good, StoppedBy, by_252, by_22, by_7}
use Rattle.case_state.specs.Tests.{state_ok}
use Rattle.cases.specs.Steps.{firsts, Fed_is}
use Rattle.cases.specs.Answers.{Answer, well, bad_state, too_soon, padded, refusal_of, fed_of, answered, call_of, output_of, Called, ending, refusal_at, unfinished_at, end_where}
use Rattle.cases.specs.Laws.Goods.{view_gather, view_acting, view_stopped}
use Rattle.case_state.proofs.Laws.Counting.{counts_place}
use Rattle.case_state.proofs.Laws.Valid.{state_sound}
use Rattle.cases.specs.Laws.Canonical.{numbers_view}
use Rattle.cases.specs.Laws.Lasting.{with_cursor}

-- ---- 1. the refusal, and the answer at the end

stopped_refusal : {count at n w p : ℕ} → StoppedBy count at n w p → refusal_at w p ≡ refusal_of (stopped at n (stop_of w p))
unfolding refusal_at refusal_of stop_of pick
stopped_refusal (by_252 a b) = refl
stopped_refusal (by_22 p a b) = refl
stopped_refusal (by_7 a) = refl

at_phase : {w v : ℕ} (p : ℕ) → w ≡ v → refusal_at v p ≡ well → refusal_at w p ≡ well
at_phase p e h = rw e h

well_0 : (p : ℕ) → refusal_at 0 p ≡ well
unfolding refusal_at pick
well_0 p = refl

well_1 : (p : ℕ) → refusal_at 1 p ≡ well
unfolding refusal_at pick
well_1 p = refl

pub refusal_is : (count : ℕ) (c : Cursor) → Good count c → refusal_at c.phase c.place ≡ refusal_of (view c)
unfolding refusal_of
refusal_is count c g = by (eqb c.phase 0) (eqb c.phase 1) refl refl
  where
    by : (x y : Bool) → eqb c.phase 0 ≡ x → eqb c.phase 1 ≡ y → refusal_at c.phase c.place ≡ refusal_of (view c)
    by true y e f = at_phase c.place (eqb-true c.phase 0 e) (well_0 c.place) ∙ ap refusal_of (sym (view_gather c (eqb-true c.phase 0 e)))
    by false true e f = at_phase c.place (eqb-true c.phase 1 f) (well_1 c.place) ∙ ap refusal_of (sym (view_acting c (eqb-true c.phase 1 f)))
    by false false e f =
        stopped_refusal (g.rests (eqb-false c.phase 0 e) (eqb-false c.phase 1 f)).2 ∙ ap refusal_of (sym (view_stopped c e f))

abbrev end_by : ℕ → ℕ → ℕ → ℕ → ℕ → Answer
end_by v p at n l = pick (eqb v 252) well (pick (eqb v 22) (refusal_at v p) (pick (eqb v 7) (refusal_at v p) (unfinished_at v l at n)))

gathering_ends : (at n l x : ℕ) → pick (eqb l 0) (pick (eqb at 0) well (Err (too_soon n))) (Err (too_soon n)) ≡ ending (gather at n (le l x))
unfolding pick le ending
gathering_ends zero n zero x = refl
gathering_ends (suc at) n zero x = rw (ne_eqb (suc at) 0 (λ e. omega arith))
gathering_ends zero n (suc l) x = rw (ne_eqb (suc l) 0 (λ e. omega arith))
gathering_ends (suc at) n (suc l) x = rw (ne_eqb (suc l) 0 (λ e. omega arith))

stopped_ends : {count at n w p : ℕ} → StoppedBy count at n w p → (l : ℕ) → end_by w p at n l ≡ ending (stopped at n (stop_of w p))
unfolding pick ending refusal_at stop_of
stopped_ends (by_252 a b) l = refl
stopped_ends (by_22 p a b) l = refl
stopped_ends (by_7 a) l = refl

acting_ends : (p at n l q c : ℕ) (cs k : List ℕ) → end_by 1 p at n l ≡ ending (acting at n q c cs k)
unfolding pick ending unfinished_at
acting_ends p at n l q c cs k = refl

gather_ends : (p at n l x : ℕ) → end_by 0 p at n l ≡ ending (gather at n (le l x))
unfolding pick unfinished_at
gather_ends p at n l x = gathering_ends at n l x

pub end_is : (count : ℕ) (c : Cursor) → Good count c → end_where c ≡ ending (view c)
unfolding end_where
end_is count c g = by (eqb c.phase 0) (eqb c.phase 1) refl refl
  where
    by : (x y : Bool) → eqb c.phase 0 ≡ x → eqb c.phase 1 ≡ y → end_by c.phase c.place c.at c.taken c.left ≡ ending (view c)
    by true y e f =
        let z = eqb-true c.phase 0 e in
        ap (λ (v : ℕ). end_by v c.place c.at c.taken c.left) z ∙ gather_ends c.place c.at c.taken c.left c.codes ∙ ap ending (sym (view_gather c (eqb-true c.phase 0 e)))
    by false true e f =
        let z = eqb-true c.phase 1 f in
        ap (λ (v : ℕ). end_by v c.place c.at c.taken c.left) z ∙ acting_ends c.place c.at c.taken c.left _ _ _ _ ∙ ap ending (sym (view_acting c (eqb-true c.phase 1 f)))
    by false false e f =
        stopped_ends (g.rests (eqb-false c.phase 0 e) (eqb-false c.phase 1 f)).2 c.left ∙ ap ending (sym (view_stopped c e f))

-- ---- 2. a call

view_taken : (c : Cursor) → Taken-of (view c) ≡ c.taken
unfolding view pick
view_taken c = by (eqb c.phase 0) (eqb c.phase 1)
  where
    by : (x y : Bool) → Taken-of (pick x (gather c.at c.taken (le c.left c.codes))
        (pick y (acting c.at c.taken c.place (c.codes % 256) (le (c.left - 1) (c.codes / 256)) (le c.filled c.block)) (stopped c.at c.taken (stop_of c.phase c.place)))) ≡ c.taken
    by true y = refl
    by false true = refl
    by false false = refl

-- the codes that a state holds are among the bytes taken
held_in : (count : ℕ) (c : Cursor) → Good count c → held (view c) ≤ Taken-of (view c)
held_in count c g = by (eqb c.phase 0) (eqb c.phase 1) refl refl
  where
    by : (x y : Bool) → eqb c.phase 0 ≡ x → eqb c.phase 1 ≡ y → held (view c) ≤ Taken-of (view c)
    by true y e f = let q = g.gathers (eqb-true c.phase 0 e) in rw (view_gather c (eqb-true c.phase 0 e)) (omega (arith, length_le c.left c.codes, q.0))
    by false true e f =
        let q = g.acts (eqb-true c.phase 1 f) in
        rw (view_acting c (eqb-true c.phase 1 f)) (omega (arith, length_le (c.left - 1) (c.codes / 256), q.0, counts_place q.3))
    by false false e f = rw (view_stopped c e f) (omega arith)

abbrev made : State → Cursor → Answer → ℕ → ℕ → Call
made s c a i w = record { state = record { kinds = s.kinds; count = s.count; bias = s.bias; cursor = c }; answer = a; taken = i; written = w }

same_call : (s : State) (c d : Cursor) (a b : Answer) (i j w v : ℕ) → c ≡ d → a ≡ b → i ≡ j → w ≡ v → made s c a i w ≡ made s d b j v
same_call s c d a b i j w v e₁ e₂ e₃ e₄ = rw (e₁, e₂, e₃, e₄)

module _ (s : State) (input o₀ o₁ : List ℕ) (c : Cursor) (i w : ℕ) (ok : state_ok s ≡ true)
    (f : Fed_is (firsts s.count s.kinds) s.count s.bias (length o₀ / 8) s.cursor input o₀ o₁ c i w) where
  is_fed : fed_of s input (length o₀) ≡ out (view c) (drop i input) f.es
  unfolding fed_of
  is_fed = f.is

  call_is : (a : Answer) → a ≡ refusal_at c.phase c.place → made s c a i w ≡ call_of s input (length o₀)
  unfolding call_of answered pick
  call_is a e =
      rw (ok, is_fed) (same_call s c (numbers (view c)) a (refusal_of (view c)) i (length input - length (drop i input)) w (length f.es)
      (sym (numbers_view s.count c f.good)) (e ∙ refusal_is s.count c f.good) (omega (arith, length-drop i input, f.inside)) f.count_es)

  output_is : o₁ ≡ output_of s input o₀
  unfolding output_of pick
  output_is = rw (ok, is_fed) f.wrote

  abbrev K : List ℕ
  K = firsts s.count s.kinds

  -- the bytes taken in all are those of the states before and after the call
  taken_more : Taken-of (view c) ≡ Taken-of (view s.cursor) + i
  taken_more =
      omega (arith, feed_keeps K s.bias (view s.cursor) input (fits (length o₀ / 8)) (view c) (drop i input) f.es f.is, length-drop i input, f.inside)

  written_most : w ≤ held (view s.cursor) + i
  written_most =
      omega (arith, feed_spends K s.bias (view s.cursor) input (fits (length o₀ / 8)) (view c) (drop i input) f.es f.is, length-drop i input, f.inside, f.count_es)

  pub call_fed : (a : Answer) → a ≡ refusal_at c.phase c.place → c.taken ≤ limit → Called s input o₀ o₁ (made s c a i w)
  call_fed a e small =
      let t = view_taken c in
      let h = held_in s.count s.cursor (state_sound s ok).1 in
      record {
        is = call_is a e;
        output = output_is;
        stands = λ q. rw is_fed;
        lasts = λ q. with_cursor s c ok f.good;
        taken_in = omega (arith, taken_more);
        written_in = omega (arith, taken_more, written_most);
      }

clash : {b : Bool} → b ≡ true → b ≡ false → ⊥
clash e f = let z : ◌≡◌ {A = ℕ} 0 1 = cc in omega arith

pub call_refused : (s : State) (input o : List ℕ) → state_ok s ≡ false → Called s input o o (record { state = s; answer = Err bad_state; taken = 0; written = 0 })
unfolding call_of output_of pick
call_refused s input o e = record { is = rw e; output = rw e; stands = λ q. absurd (clash q e); lasts = λ q. q; taken_in = omega arith; written_in = omega arith }

-- ---- 3. the start

pub pad_none : (l : List ℕ) → padded 0 l ≡ replicate 256 0
unfolding padded
pad_none l = refl

pub pad_more : (i : ℕ) (l : List ℕ) → i < length l → length l ≤ 256 → set (padded i l) i (get_or l i 0) ≡ padded (i + 1) l
unfolding padded
pad_more i l h k =
    let e : 256 - i ≡ suc (256 - (i + 1)) = omega arith in
    let n : length (take i l) ≡ i = length-take-le i l (omega arith) in
    rw (e, set_at (take i l) 0 (replicate (256 - (i + 1)) 0) (get_or l i 0) i n, add-one i, take-suc l i 0) (sym (append_snoc (take i l) (get_or l i 0) (replicate (256 - suc i) 0)))
