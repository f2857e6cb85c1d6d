-- T-05's theorem of the code's own calls and states: "However the bytes are cut and whatever room each call had, from the same start, once every
-- byte was offered and calls with room neither take nor write any more, the elements joined together and the final state are the same."
use Rattle.std.specs.Prelude.{◌≡◌, refl, true, List, [], ◌∷◌, ◌++◌, ℕ, suc, ◌-◌, ◌/◌, ◌≤◌, length, drop}
use Rattle.std.proofs.Common.{sym, ◌∙◌, arith}
use Rattle.std.proofs.Math.Path.{ap}
use Rattle.sizes.specs.Basics.{le, pick}
use Rattle.case_stream.specs.Stream.{Element, meaning}
use Rattle.case_stream.specs.Machine.{fits, out, feed, run, start}
use Rattle.case_stream.specs.Cuts.{Calls, no_call, call, out_of}
use Rattle.case_stream.proofs.Laws.OneAnswer.{one_answer}
use Rattle.case_stream.proofs.Laws.Meaning.{run_means}
use Rattle.case_state.specs.declared.Cursor.{Cursor}
use Rattle.case_state.specs.declared.State.{State}
use Rattle.cases.specs.declared.Call.{Call}
use Rattle.case_state.specs.Cursor.{view, Good}
use Rattle.case_state.specs.Tests.{state_ok}
use Rattle.cases.specs.Steps.{firsts}
use Rattle.cases.specs.Answers.{Answer, padded, cursor₀, start_ok, elements, fed_of, answered, call_of, Called}
use Rattle.case_state.proofs.Laws.Valid.{state_parts}
use Rattle.cases.specs.Laws.Canonical.{view_one}
use Rattle.cases.specs.Laws.Lasting.{started_ok, padded_firsts}

module _ (kinds : List ℕ) (count bias : ℕ) where
  abbrev K : List ℕ
  K = firsts count kinds

  -- the state with this cursor
  abbrev pub with_it : Cursor → State
  with_it c = record { kinds = kinds; count = count; bias = bias; cursor = c }

  abbrev pub wrote_by : Cursor → List ℕ → List ℕ → List Element
  wrote_by c offered o = elements (fed_of (with_it c) offered (length o))

  -- Calls of `feed` from c with the bytes s still to offer, to d with the bytes s', and the elements that they wrote: each was offered a first
  -- part of what was left, with any output, and what it didn't take was offered again.
  pub data Made : Cursor → List ℕ → Cursor → List ℕ → List Element → Type 0 where
    none_made : {c : Cursor} {s : List ℕ} → Made c s c s []
    one_made : {c : Cursor} (offered later o₀ o₁ : List ℕ) (d : Cursor) (a : Answer) (i w : ℕ) {c' : Cursor} {s' : List ℕ} {es : List Element}
        → Called (with_it c) offered o₀ o₁ (record { state = with_it d; answer = a; taken = i; written = w })
        → Made d (drop i offered ++ later) c' s' es → Made c (offered ++ later) c' s' (wrote_by c offered o₀ ++ es)

  -- such calls, and then one with room, offered all that is left, that took and wrote nothing
  pub record Ended (c : Cursor) (s : List ℕ) (d : Cursor) (rest : List ℕ) (es : List Element) : Type 0 where
    pub before_last : Cursor
    pub calls : Made c s before_last rest es
    pub o₀ : List ℕ
    pub o₁ : List ℕ
    pub answer : Answer
    pub roomy : 8 ≤ length o₀
    pub last_call : Called (with_it before_last) rest o₀ o₁ (record { state = with_it d; answer = answer; taken = 0; written = 0 })

  -- ---- the machine's calls

  called_is : {c d : Cursor} {offered o₀ o₁ : List ℕ} {a : Answer} {i w : ℕ} → state_ok (with_it c) ≡ true
      → Called (with_it c) offered o₀ o₁ (record { state = with_it d; answer = a; taken = i; written = w })
      → feed K bias (view c) offered (fits (length o₀ / 8)) ≡ out (view d) (drop i offered) (wrote_by c offered o₀)
  unfolding fed_of
  called_is ok f = f.stands ok

  calls_of : {c d : Cursor} {s s' : List ℕ} {es : List Element} → state_ok (with_it c) ≡ true → Made c s d s' es → Calls K bias (view c) s (view d) s' es × (state_ok (with_it d) ≡ true)
  calls_of ok none_made = (no_call, ok)
  calls_of {c} ok (one_made offered later o₀ o₁ d a i w f cs) =
      let m = calls_of (f.lasts ok) cs in
      (call offered later (length o₀ / 8) (view d) (drop i offered) (wrote_by c offered o₀) (called_is ok f) m.0, m.1)

  nothing : (es : List Element) → 0 ≡ length es → es ≡ []
  nothing [] h = refl
  nothing (e ∷ es) h = absurd (omega arith)

  count_wrote : {c d : Cursor} {offered o₀ o₁ : List ℕ} {a : Answer} {i w : ℕ} → state_ok (with_it c) ≡ true
      → Called (with_it c) offered o₀ o₁ (record { state = with_it d; answer = a; taken = i; written = w }) → w ≡ length (wrote_by c offered o₀)
  unfolding call_of answered pick
  count_wrote ok f = ap (λ (r : Call). r.written) f.is ∙ rw ok

  run_of : {c d : Cursor} {s rest : List ℕ} {es : List Element} → state_ok (with_it c) ≡ true → Ended c s d rest es → run K bias (view c) s ≡ out (view d) rest es
  run_of {d = d} {rest = rest} ok e =
      let m = calls_of ok e.calls in
      let f = e.last_call in
      let none : wrote_by e.before_last rest e.o₀ ≡ [] = nothing (wrote_by e.before_last rest e.o₀) (count_wrote m.1 f) in
      let some : length e.o₀ / 8 ≡ suc (length e.o₀ / 8 - 1) = omega (arith, e.roomy) in
      one_answer K bias m.0 (length e.o₀ / 8 - 1) (rw (none, some) at (called_is m.1 f))

  end_good : {c d : Cursor} {s rest : List ℕ} {es : List Element} → state_ok (with_it c) ≡ true → Ended c s d rest es → Good count d
  end_good {d = d} ok e = (state_parts (with_it d) (e.last_call.lasts (calls_of ok e.calls).1)).good

  -- ---- the theorem

  -- From any state: the state in the end, the elements joined together and the bytes never taken do not depend on cuts and rooms.
  pub same_end : {c d d' : Cursor} {s rest rest' : List ℕ} {es es' : List Element} → state_ok (with_it c) ≡ true → Ended c s d rest es → Ended c s d' rest' es'
      → (d ≡ d') × (es ≡ es') × (rest ≡ rest')
  same_end {d = d} {d' = d'} {rest = rest} {rest' = rest'} {es = es} {es' = es'} ok a b =
      let e : out (view d) rest es ≡ out (view d') rest' es' = sym (run_of ok a) ∙ run_of ok b in
      let v : view d ≡ view d' = cc e in
      (view_one (end_good ok a) (end_good ok b) v, cc e, cc e)

at_start : view cursor₀ ≡ start
unfolding view pick le
at_start = refl

-- From a start that is not refused: they are those of the whole stream's meaning.
pub means_of : (l : List ℕ) (bias : ℕ) → start_ok l bias ≡ true → {d : Cursor} {s rest : List ℕ} {es : List Element}
    → Ended (padded (length l) l) (length l) bias cursor₀ s d rest es → out (view d) rest es ≡ out_of l bias 0 (meaning l bias s)
means_of l bias ok {d} {s} {rest} {es} e =
    let k = padded (length l) l in
    let fine : state_ok (record { kinds = k; count = length l; bias = bias; cursor = cursor₀ }) ≡ true = started_ok l bias ok in
    let r : run (firsts (length l) k) bias start s ≡ out (view d) rest es = rw at_start at (run_of k (length l) bias fine e) in
    sym (rw padded_firsts at r) ∙ run_means l bias s
