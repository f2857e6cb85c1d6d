-- Arrays of 256 numbers that a loop fills.
use Rattle.std.specs.Prelude.{◌≡◌, refl, List, [], ◌∷◌, ℕ, zero, suc, ◌+◌, ◌≤◌, ◌<◌, min, length, drop, get_or, replicate, set}
use Rattle.std.proofs.Common.{sym, ap, ◌∙◌, append-nil, arith, length-append, get_or-drop, take_all}
use Rattle.cases.specs.Steps.{firsts}
use Rattle.cases.specs.Answers.{padded}
use Rattle.cases.specs.Laws.Loop.{length_firsts, get_d_firsts}
use Rattle.cases.specs.Laws.Answering.{pad_none, pad_more}
use Rattle.case_state.specs.declared.State.{State}
use Rattle.cases_words.specs.StateWords.{state_words, first_kind, head_words, state_words_of, narrowed, kinds_of}

length_narrowed : (l : List ℕ) → length (narrowed l) ≡ length l
unfolding narrowed
length_narrowed [] = refl
length_narrowed (x ∷ l) = ap suc (length_narrowed l)

get_d_narrowed : (l : List ℕ) (i : ℕ) → get_or (narrowed l) i 0 ≡ min (get_or l i 0) 255
unfolding narrowed
get_d_narrowed [] i = refl
get_d_narrowed (x ∷ l) zero = refl
get_d_narrowed (x ∷ l) (suc i) = get_d_narrowed l i

pub kinds_long : (ws : List ℕ) → length (kinds_of ws) ≡ 256
unfolding kinds_of
kinds_long ws = length_narrowed (firsts 256 (drop first_kind ws)) ∙ length_firsts 256 (drop first_kind ws)

pub kinds_word : (ws : List ℕ) (i : ℕ) → i < 256 → get_or (kinds_of ws) i 0 ≡ min (get_or ws (first_kind + i) 0) 255
unfolding kinds_of
kinds_word ws i h = get_d_narrowed (firsts 256 (drop first_kind ws)) i ∙ rw (get_d_firsts 256 (drop first_kind ws) i h, get_or-drop first_kind ws i 0)

-- an array that holds the first i of 256 numbers, and 0 else
pub none_set : (l : List ℕ) → replicate 256 0 ≡ padded 0 l
none_set l = sym (pad_none l)

pub one_set : (l k : List ℕ) (i x : ℕ) → length l ≡ 256 → i < 256 → k ≡ padded i l → x ≡ get_or l i 0 → set k i x ≡ padded (i + 1) l
one_set l k i x n h e f = rw (e, f) (pad_more i l (omega arith) (omega arith))

pub all_set : (l k : List ℕ) (i : ℕ) → length l ≡ 256 → 256 ≤ i → i ≤ 256 → k ≡ padded i l → k ≡ l
unfolding padded
all_set l k i n h q e =
    let z : i ≡ 256 = omega arith in
    e ∙ rw z (rw (take_all 256 l (omega arith)) (append-nil l))

pub state_long : (s : State) → length (state_words_of s) ≡ state_words
unfolding state_words_of head_words
state_long s = rw (length-append, length_firsts 256 s.kinds)
