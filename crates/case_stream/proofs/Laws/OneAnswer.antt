-- Whatever the cuts and rooms, the calls give what one call with endless room gives.
use Rattle.std.specs.Prelude.{◌≡◌, ℕ, suc}
use Rattle.std.proofs.Math.Path.{sym, ap}
use Rattle.std.proofs.Common.{◌∙◌}
use mathlib.Core.List.{List, [], append-nil}
use Rattle.case_stream.specs.Stream.{Element}
use Rattle.case_stream.specs.Machine.{State, Room, fits, endless, has, less, halts, step, Out, out, put, feed, run}
use Rattle.case_stream.specs.Cuts.{Calls, no_call, call}
use Rattle.case_stream.proofs.Laws.Steps.{Feeds, over, first, feeds, feed_halts, put_nil, put_put}
use Rattle.case_stream.proofs.Laws.Compose.{less_less, less_nil, w_endless, compose}

module _ (kinds : List ℕ) (bias : ℕ) where
  -- where a call ends, no step is left
  pub data Ends (r : Room) : Out → Type 0 where
    at_end : {t : State} {s : List ℕ} {es : List Element} → step kinds bias t s (less r es) ≡ halts → Ends r (out t s es)

  put_ends : {r : Room} (es : List Element) {x : Out} → Ends (less r es) x → Ends r (put es x)
  unfolding put
  put_ends {r} es (at_end {es = fs} e) = at_end (rw less_less at e)

  pub ends : {t : State} {s : List ℕ} {r : Room} {x : Out} → Feeds kinds bias t s r x → Ends r x
  ends (over t s r e) = at_end {t = t} {s = s} {es = []} (rw less_nil e)
  ends (first t s r t' s' es e f) = put_ends es (ends f)

  joined : {t u : State} {s s' : List ℕ} {es : List Element} → Calls kinds bias t s u s' es → run kinds bias t s ≡ put es (run kinds bias u s')
  unfolding less
  joined {t} {u} {s} no_call = sym (put_nil (run kinds bias t s))
  joined {t} {u} {s} {s'} (call offered later r u₁ rest es {fs = fs} e c) =
      compose kinds bias t offered later (fits r) endless w_endless u₁ rest es e
      ∙ ap (put es) (joined c) ∙ put_put es fs (run kinds bias u s')

  quiet : (v : State) (s : List ℕ) (r : ℕ) → step kinds bias v s (fits (suc r)) ≡ halts → step kinds bias v s endless ≡ halts
  unfolding step has
  quiet v s r e = e

  last : (u v : State) (s : List ℕ) (r : ℕ) → feed kinds bias u s (fits (suc r)) ≡ out v s [] → run kinds bias u s ≡ run kinds bias v s
  unfolding less
  last u v s r e = rw (append-nil, put_nil) at (compose kinds bias u s [] (fits (suc r)) endless w_endless v s [] e)

  still : (v : State) (s : List ℕ) (r : ℕ) → Ends (fits (suc r)) (out v s []) → run kinds bias v s ≡ out v s []
  still v s r (at_end e) = feed_halts kinds bias v s endless (quiet v s r (rw less_nil at e))

  -- Whatever the cuts and rooms: once all that is left was offered to a call with room that took and wrote nothing, the elements joined
  -- together, that call's state and the bytes never taken are those of `run`.
  pub one_answer : {t u v : State} {s s' : List ℕ} {es : List Element} → Calls kinds bias t s u s' es → (r : ℕ) → feed kinds bias u s' (fits (suc r)) ≡ out v s' []
      → run kinds bias t s ≡ out v s' es
  unfolding put
  one_answer {t} {u} {v} {s} {s'} {es} c r e =
      let stays : run kinds bias v s' ≡ out v s' [] = still v s' r (ends (rw e at (feeds kinds bias u s' (fits (suc r))))) in
      joined c ∙ rw (last u v s' r e, stays, append-nil)
