-- Document 02, T-05: a stream that is cut, and given to one call after the other; and a whole stream's meaning as a state. The theorem in
-- `Theorem` is about these.
use Rattle.std.specs.Prelude.{◌≡◌, List, [], ◌++◌, ℕ, ◌+◌, ◌%◌, length}
use Rattle.case_stream.specs.Stream.{Element, Why, in_group, in_block, stop, Meaning, means}
use Rattle.case_stream.specs.Machine.{State, gather, acting, stopped, fits, Out, out, feed}

module _ (kinds : List ℕ) (bias : ℕ) where
  -- Calls from the state t with the bytes s still to offer, to the state u with the bytes s', and the elements that they wrote: each offers a
  -- first part of what is left, in any room, and what it didn't take is offered again ("the rest is offered again").
  pub data Calls : State → List ℕ → State → List ℕ → List Element → Type 0 where
    no_call : {t : State} {s : List ℕ} → Calls t s t s []
    call : {t : State} (offered later : List ℕ) (r : ℕ) (u : State) (rest : List ℕ) (es : List Element) {v : State} {s' : List ℕ} {fs : List Element}
        → feed kinds bias t offered (fits r) ≡ out u rest es → Calls u (rest ++ later) v s' fs → Calls t (offered ++ later) v s' (es ++ fs)

-- the state in which a stream's meaning goes no further, `at` being the position in the case and q the number of bytes taken
abbrev pub state_with : ℕ → ℕ → Why → State
state_with at q (in_group g) = gather at q g
state_with at q (in_block p c cs k) = acting at q p c cs k
state_with at q (stop w) = stopped at q w

module _ (kinds : List ℕ) (bias : ℕ) where
  -- that state, the bytes behind those taken, and the elements; n elements stand before
  abbrev pub out_of : ℕ → Meaning → Out
  out_of n (means es q r w) = out (state_with ((n + length es) % length kinds) q w) r es
