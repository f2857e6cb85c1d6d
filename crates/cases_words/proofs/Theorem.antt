-- T-05's theorem of the functions for other languages, over chains of their calls: each is lent the words that the call before it left.
use Rattle.std.specs.Prelude.{◌≡◌, refl, true, false, List, [], ◌++◌, ℕ, ◌-◌, ◌≤◌, length, take, drop, get_or}
use Rattle.std.proofs.Common.{sym, ap, ◌∙◌, arith, length-append, take_at, length-take-le, leb-true}
use Rattle.std.proofs.lemmas.List.{length-replicate}
use Rattle.sizes.specs.Basics.{pick}
use Rattle.case_stream.specs.Stream.{Element, ended, bad, full, meaning}
use Rattle.case_stream.specs.Machine.{State as Machine, gather, acting, stopped, out}
use Rattle.case_stream.specs.Cuts.{out_of}
use Rattle.case_state.specs.declared.Cursor.{Cursor}
use Rattle.case_state.specs.declared.State.{State}
use Rattle.case_state.specs.Cursor.{numbers, view}
use Rattle.case_state.specs.Tests.{state_ok}
use Rattle.cases.specs.declared.Call.{Call}
use Rattle.cases.specs.Laws.Lasting.{start_parts, start_lasts}
use Rattle.cases.specs.Answers.{Answer, padded, cursor₀, start_ok, start_of, refusal_of, state_after, not_taken, elements, fed_of, answered, call_of, Called}
use Rattle.cases.specs.Theorem as code
use Rattle.cases.specs.Theorem.{with_it}
use Rattle.cases_words.specs.StateWords.{state_words, state_words_of, state_of}
use Rattle.cases_words.specs.Calls.{short_answer, call_answer, no_state, roomy, Started, Fed}
use Rattle.cases_words.proofs.Laws.Arrays.{kinds_long, state_long}
use Rattle.cases_words.proofs.Laws.Back.{state_back}

-- the elements that a call with these words of a state wrote
abbrev pub wrote : List ℕ → List ℕ → List ℕ → List Element
wrote ws offered o = elements (fed_of (state_of ws) offered (length o))

-- Calls of `feed_words` from the words ws with the bytes s still to offer, to the words ws' with the bytes s', and the elements that they wrote: each was
-- offered a first part of what was left, with any output and an answer that is long enough, and what it didn't take, by the third word of its
-- answer, was offered again.
pub data Made : List ℕ → List ℕ → List ℕ → List ℕ → List Element → Type 0 where
  none_made : {ws s : List ℕ} → Made ws s ws s []
  one_made : {ws : List ℕ} (offered later o₀ o₁ a₀ a₁ next : List ℕ) {ws' s' : List ℕ} {es : List Element}
      → roomy (length ws) (length a₀) call_answer ≡ true → Fed ws offered o₀ a₀ call_answer next o₁ a₁
      → Made next (drop (get_or a₁ 2 0) offered ++ later) ws' s' es → Made ws (offered ++ later) ws' s' (wrote ws offered o₀ ++ es)

-- such calls, and then one with room for an element, offered all that is left, that took and wrote nothing
pub record Ended (ws s ws' rest : List ℕ) (es : List Element) : Type 0 where
  pub before_last : List ℕ
  pub calls : Made ws s before_last rest es
  pub o₀ : List ℕ
  pub o₁ : List ℕ
  pub a₀ : List ℕ
  pub a₁ : List ℕ
  pub room : roomy (length before_last) (length a₀) call_answer ≡ true
  pub for_an_element : 8 ≤ length o₀
  pub last_call : Fed before_last rest o₀ a₀ call_answer ws' o₁ a₁
  pub none_taken : get_or a₁ 2 0 ≡ 0
  pub none_written : get_or a₁ 3 0 ≡ 0

-- ---- a call

-- what a machine's state answers is never 21
never_21 : (m : Machine) → no_state (refusal_of m) ≡ false
unfolding refusal_of
never_21 (gather at n g) = refl
never_21 (acting at n p c cs k) = refl
never_21 (stopped at n ended) = refl
never_21 (stopped at n (bad p)) = refl
never_21 (stopped at n full) = refl

module _ (kinds : List ℕ) (count bias : ℕ) (long : length kinds ≡ 256) where
  abbrev state : Cursor → State
  state c = with_it kinds count bias c

  module _ {ws offered o₀ o₁ a₀ a₁ next : List ℕ} (c : Cursor) (is : state_of ws ≡ state c) (ok : state_ok (state c) ≡ true)
      (room : roomy (length ws) (length a₀) call_answer ≡ true) (f : Fed ws offered o₀ a₀ call_answer next o₁ a₁) where
    abbrev d : Cursor
    d = numbers (state_after (fed_of (state c) offered (length o₀)))

    abbrev a : Answer
    a = refusal_of (state_after (fed_of (state c) offered (length o₀)))

    abbrev i : ℕ
    i = length offered - length (not_taken (fed_of (state c) offered (length o₀)))

    abbrev w : ℕ
    w = length (elements (fed_of (state c) offered (length o₀)))

    abbrev r : Call
    r = record { state = state d; answer = a; taken = i; written = w }

    call_is : call_of (state c) offered (length o₀) ≡ r
    unfolding call_of answered pick
    call_is = rw ok

    called : Called (state c) offered o₀ o₁ r
    called = rw (is, call_is) at (f.called room)

    lasts : state_ok (state d) ≡ true
    lasts = called.lasts ok

    next_words : next ≡ state_words_of (state d) ++ drop state_words ws
    unfolding pick
    next_words = rw (room, is, call_is, never_21 (state_after (fed_of (state c) offered (length o₀)))) at f.leaves

    next_is : state_of next ≡ state d
    next_is = rw next_words (state_back (state d) lasts (drop state_words ws) long)

    taken_is : get_or a₁ 2 0 ≡ i
    unfolding pick
    taken_is = rw (rw (room, is, call_is) at f.answers)

    kept_is : take state_words next ≡ state_words_of (state d)
    kept_is = rw next_words (take_at (state_words_of (state d)) (drop state_words ws) state_words (state_long (state d)))

    written_is : get_or a₁ 3 0 ≡ w
    unfolding pick
    written_is = rw (rw (room, is, call_is) at f.answers)

    one_more : (later : List ℕ) {last : Cursor} {s' : List ℕ} {es : List Element} → code.Made kinds count bias d (drop (get_or a₁ 2 0) offered ++ later) last s' es
        → code.Made kinds count bias c (offered ++ later) last s' (wrote ws offered o₀ ++ es)
    one_more later k = rw is (code.one_made offered later o₀ o₁ d a i w called (rw taken_is at k))

  -- ---- chains

  -- calls with words are calls of the code, from the state that the words stand for
  record Reached (c : Cursor) (s ws' s' : List ℕ) (es : List Element) : Type 0 where
    last : Cursor
    is : state_of ws' ≡ state last
    ok : state_ok (state last) ≡ true
    calls : code.Made kinds count bias c s last s' es

  made_of : {ws s ws' s' : List ℕ} {es : List Element} (c : Cursor) → state_of ws ≡ state c → state_ok (state c) ≡ true → Made ws s ws' s' es → Reached c s ws' s' es
  made_of c is ok none_made = record { last = c; is = is; ok = ok; calls = code.none_made }
  made_of c is ok (one_made offered later o₀ o₁ a₀ a₁ next room f more) =
      let m = made_of (d c is ok room f) (next_is c is ok room f) (lasts c is ok room f) more in
      record {
        last = m.last;
        is = m.is;
        ok = m.ok;
        calls = one_more c is ok room f later m.calls;
      }

  record Stops (c : Cursor) (s ws' rest : List ℕ) (es : List Element) : Type 0 where
    last : Cursor
    is : state_of ws' ≡ state last
    words : take state_words ws' ≡ state_words_of (state last)
    ends : code.Ended kinds count bias c s last rest es

  ended_of : {ws s ws' rest : List ℕ} {es : List Element} (c : Cursor) → state_of ws ≡ state c → state_ok (state c) ≡ true → Ended ws s ws' rest es → Stops c s ws' rest es
  ended_of c is ok e =
      let m = made_of c is ok e.calls in
      let f = e.last_call in
      let none : i m.last m.is m.ok e.room f ≡ 0 = sym (taken_is m.last m.is m.ok e.room f) ∙ e.none_taken in
      let nothing : w m.last m.is m.ok e.room f ≡ 0 = sym (written_is m.last m.is m.ok e.room f) ∙ e.none_written in
      record {
        last = d m.last m.is m.ok e.room f;
        is = next_is m.last m.is m.ok e.room f;
        words = kept_is m.last m.is m.ok e.room f;
        ends = record {
          before_last = m.last;
          calls = m.calls;
          o₀ = e.o₀;
          o₁ = e.o₁;
          answer = a m.last m.is m.ok e.room f;
          roomy = e.for_an_element;
          last_call = rw (none, nothing) at (called m.last m.is m.ok e.room f);
        };
      }

-- ---- the theorem

-- From any words of a state that passes: the words of the state in the end, the elements joined together and the bytes never taken do not depend on
-- cuts and rooms.
pub cut_free : {ws s ws₁ ws₂ rest₁ rest₂ : List ℕ} {es₁ es₂ : List Element} → state_ok (state_of ws) ≡ true → Ended ws s ws₁ rest₁ es₁ → Ended ws s ws₂ rest₂ es₂
    → (take state_words ws₁ ≡ take state_words ws₂) × (es₁ ≡ es₂) × (rest₁ ≡ rest₂)
unfolding state_of
cut_free {ws} ok x y =
    let k = state_of ws in
    let p = ended_of k.kinds k.count k.bias (kinds_long ws) k.cursor refl ok x in
    let q = ended_of k.kinds k.count k.bias (kinds_long ws) k.cursor refl ok y in
    let e = code.same_end k.kinds k.count k.bias ok p.ends q.ends in
    (p.words ∙ ap (λ (c : Cursor). state_words_of (with_it k.kinds k.count k.bias c)) e.0 ∙ sym q.words, e.1, e.2)

padded_long : (l : List ℕ) → length l ≤ 256 → length (padded (length l) l) ≡ 256
unfolding padded
padded_long l h = rw (length-append, length-replicate, length-take-le (length l) l (omega arith)) (omega arith)

-- From a start that is not refused: they are those of the whole stream's meaning.
pub means_of : (l : List ℕ) (bias : ℕ) → start_ok l bias ≡ true → {state answer state' answer' : List ℕ} → roomy (length state) (length answer) short_answer ≡ true
    → Started l bias state answer short_answer state' answer' → {s ws' rest : List ℕ} {es : List Element} → Ended state' s ws' rest es
    → out (view (state_of ws').cursor) rest es ≡ out_of l bias 0 (meaning l bias s)
unfolding start_of pick
means_of l bias ok {state} {answer} {state'} room f {ws' = ws'} {rest = rest} {es = es} x =
    let k = padded (length l) l in
    let long = padded_long l (leb-true (length l) 256 (start_parts l bias ok).1) in
    let fine : state_ok (with_it k (length l) bias cursor₀) ≡ true = (start_lasts l bias ok).1 in
    let words : state' ≡ state_words_of (with_it k (length l) bias cursor₀) ++ drop state_words state = rw (room, ok) at f.settles in
    let is : state_of state' ≡ with_it k (length l) bias cursor₀ = rw words (state_back (with_it k (length l) bias cursor₀) fine (drop state_words state) long) in
    let e = ended_of k (length l) bias long cursor₀ is fine x in
    rw e.is (code.means_of l bias ok e.ends)
