-- T-05: no start that is not refused and no call leaves a state that is 21; a refusal lasts.
use Rattle.std.specs.Prelude.{◌≡◌, refl, true, List, [], ◌∷◌, ◌++◌, ℕ, zero, suc, ◌+◌, ◌-◌, ◌≤◌, ◌<◌, leb, ltb, length, take, get_or, replicate, Ok}
use Rattle.std.proofs.Common.{ap, ◌∙◌, arith, length-take-le, get_or-append-add, take_all, leb-true, eq-eqb}
use Rattle.std.proofs.lemmas.List.{get_or-replicate}
use Rattle.sizes.specs.Basics.{pick}
use Rattle.case_stream.specs.Stream.{most_kinds, most_bias}
use Rattle.case_state.specs.declared.Cursor.{Cursor}
use Rattle.case_state.specs.declared.State.{State}
use Rattle.case_state.specs.Cursor.{Good}
use Rattle.case_state.specs.Tests.{kinds_ok, rest_ok, state_ok, cursor_ok, gather_ok}
use Rattle.cases.specs.Steps.{firsts}
use Rattle.cases.specs.Answers.{padded, cursor₀, start_ok, started, start_of}
use Rattle.case_state.proofs.Laws.Tests.{both}
use Rattle.case_state.proofs.Laws.Valid.{complete, state_parts}

-- a good cursor in the place of a state's own
pub with_cursor : (s : State) (c : Cursor) → state_ok s ≡ true → Good s.count c
    → state_ok (record { kinds = s.kinds; count = s.count; bias = s.bias; cursor = c }) ≡ true
unfolding state_ok pick
with_cursor s c e g = let p = state_parts s e in rw (p.few, p.bias_in, p.known, p.no_more) (complete s.count c g)

-- ---- the start

pub start_parts : (l : List ℕ) (bias : ℕ) → start_ok l bias ≡ true → (ltb 0 (length l) ≡ true) × (leb (length l) most_kinds ≡ true) × (leb bias most_bias ≡ true) × (kinds_ok (length l) (padded (length l) l) ≡ true)
unfolding start_ok
start_parts l bias e = let a = both _ _ e in let b = both _ _ a.1 in let c = both _ _ b.1 in (a.0, b.0, c.0, c.1)

first_ok : (count : ℕ) → ltb 0 count ≡ true → cursor_ok count cursor₀ ≡ true
unfolding cursor_ok gather_ok pick
first_ok count e = rw e

rest_zero : (n : ℕ) (l : List ℕ) → ((j : ℕ) → j < n → get_or l (most_kinds - suc j) 0 ≡ 0) → rest_ok n l ≡ true
unfolding rest_ok pick
rest_zero zero l h = refl
rest_zero (suc n) l h = rw (eq-eqb (get_or l (most_kinds - suc n) 0) 0 (h n (omega arith))) (rest_zero n l (λ j k. h j (omega arith)))

beyond : (i k : ℕ) (l : List ℕ) → i ≤ length l → k < most_kinds - i → get_or (padded i l) (i + k) 0 ≡ 0
unfolding padded
beyond i k l h q =
    let n : length (take i l) ≡ i = length-take-le i l h in
    let e = get_or-append-add (take i l) (replicate (256 - i) 0) k 0 in
    (rw n at e) ∙ get_or-replicate (256 - i) k 0 0 q

padded_rest : (l : List ℕ) → length l ≤ most_kinds → rest_ok (most_kinds - length l) (padded (length l) l) ≡ true
padded_rest l h = rest_zero (most_kinds - length l) (padded (length l) l) (λ j k. by j k)
  where
    by : (j : ℕ) → j < most_kinds - length l → get_or (padded (length l) l) (most_kinds - suc j) 0 ≡ 0
    by j k =
        let e : most_kinds - suc j ≡ length l + (most_kinds - suc j - length l) = omega arith in
        rw e (beyond (length l) (most_kinds - suc j - length l) l (omega arith) (omega arith))

pub started_ok : (l : List ℕ) (bias : ℕ) → start_ok l bias ≡ true → state_ok (started l bias) ≡ true
unfolding state_ok pick
started_ok l bias e =
    let p = start_parts l bias e in
    rw (p.1, p.2, p.3, padded_rest l (leb-true (length l) most_kinds p.1)) (first_ok (length l) p.0)

-- a start that is not refused leaves a state: what it answers, one that passes
pub start_lasts : (l : List ℕ) (bias : ℕ) → start_ok l bias ≡ true → (start_of l bias ≡ Ok (started l bias)) × (state_ok (started l bias) ≡ true)
unfolding start_of pick
start_lasts l bias e = (rw e, started_ok l bias e)

pub start_is : (l : List ℕ) (bias : ℕ) → start_ok l bias ≡ true → start_of l bias ≡ Ok (started l bias)
unfolding start_of pick
start_is l bias e = rw e

-- the kinds of a state that was started are those of the list
pub firsts_of : (l r : List ℕ) → firsts (length l) (l ++ r) ≡ l
unfolding firsts
firsts_of [] r = refl
firsts_of (x ∷ l) r = ap (λ (k : List ℕ). x ∷ k) (firsts_of l r)

pub padded_firsts : (l : List ℕ) → firsts (length l) (padded (length l) l) ≡ l
unfolding padded
padded_firsts l = let n : length l ≤ length l = omega arith in rw (take_all (length l) l n) (firsts_of l (replicate (256 - length l) 0))
