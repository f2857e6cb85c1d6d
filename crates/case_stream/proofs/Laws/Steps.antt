-- A call is its steps, to the end: each makes the weight smaller.
use Rattle.std.specs.Prelude.{◌≡◌, Bool, true, false, ltb, length, get_or}
use Rattle.std.proofs.Math.Path.{refl}
use Rattle.std.proofs.Common.{sym, ap, ◌∙◌, arith}
use mathlib.Core.List.{List, [], ◌∷◌, ◌++◌, append_assoc}
use Prim.Native.Nat.{ℕ, zero, suc, ◌+◌, ◌-◌, ◌*◌, ◌≤◌, ◌<◌}
use Rattle.std.proofs.Math.ListN.{length-append}
use Rattle.sizes.specs.Basics.{pick}
use Rattle.case_stream.specs.Stream.{Element, limit, ended, bad, full, Says, skip, finish, block, wrong, gives, says}
use Rattle.case_stream.specs.Machine.{State, gather, acting, stopped, Room, has, less, Step, halts, goes, after, gathered, takes, next, blocked, acts, moves, step, Out, out, put, weight, iterate, feed}
use Rattle.case_stream.specs.Laws.Steps.{μ}

-- ---- 1. each step makes the weight smaller

pub data Falls (m : ℕ) : Step → Type 0 where
  stays : Falls m halts
  drops : (t : State) (s : List ℕ) {es : List Element} → μ t s < m → Falls m (goes t s es)

pub after_weight : (at n p : ℕ) (cs : List ℕ) → weight (after at n p cs) ≤ 10 + length cs
unfolding after weight
after_weight at n p [] = omega arith
after_weight at n p (c ∷ cs) = omega arith

gathered_weight : (at n : ℕ) (g : List ℕ) → weight (gathered at n g) ≤ 10 + length g
unfolding gathered pick weight
gathered_weight at n g = by (ltb (length g) 8)
  where
    by : (b : Bool) → weight (pick b (gather at n g) (after at n (n - 8) g)) ≤ 10 + length g
    by true = omega arith
    by false = after_weight at n (n - 8) g

pick_falls : (m : ℕ) (b : Bool) {x y : Step} → Falls m x → Falls m y → Falls m (pick b x y)
unfolding pick
pick_falls m true h k = h
pick_falls m false h k = k

module _ (kinds : List ℕ) (bias : ℕ) where
  acts_falls : (y : Says) (at n p c : ℕ) (cs k s : List ℕ) → Falls (10 * length s + (11 + length cs)) (acts kinds bias y at n p c cs k s)
  unfolding acts weight blocked takes
  acts_falls skip at n p c cs k s = drops (after at n (p + 1) cs) s (omega (arith, after_weight at n (p + 1) cs))
  acts_falls finish at n p c cs k s = drops (stopped at n ended) s (omega arith)
  acts_falls wrong at n p c cs k s = drops (stopped at n (bad p)) s (omega arith)
  acts_falls (gives e) at n p c cs k s = drops (after (next kinds bias at) n (p + 1) cs) s (omega (arith, after_weight (next kinds bias at) n (p + 1) cs))
  acts_falls block at n p c cs k [] = stays
  acts_falls block at n p c cs k (b ∷ bs) =
      pick_falls _ (ltb n limit)
      (pick_falls _ (ltb (length (k ++ b ∷ [])) 8)
      (drops (acting at (n + 1) p c cs (k ++ b ∷ [])) bs (omega arith))
      (drops (after (next kinds bias at) (n + 1) (p + 1) cs) bs (omega (arith, after_weight (next kinds bias at) (n + 1) (p + 1) cs))))
      (drops (stopped at n full) (b ∷ bs) (omega arith))

  moves_falls : (t : State) (s : List ℕ) → Falls (μ t s) (moves kinds bias t s)
  unfolding moves weight takes
  moves_falls (gather at n g) [] = stays
  moves_falls (gather at n g) (b ∷ bs) =
      pick_falls _ (ltb n limit)
      (drops (gathered at (n + 1) (g ++ b ∷ [])) bs (omega (arith, gathered_weight at (n + 1) (g ++ b ∷ []), length-append g (b ∷ []))))
      (drops (stopped at n full) (b ∷ bs) (omega arith))
  moves_falls (acting at n p c cs k) s = acts_falls (says (get_or kinds at 0) bias c) at n p c cs k s
  moves_falls (stopped at n w) s = stays

  pub step_falls : (t : State) (s : List ℕ) (r : Room) → Falls (μ t s) (step kinds bias t s r)
  unfolding step
  step_falls t s r = pick_falls (μ t s) (has r) (moves_falls t s) stays

-- ---- 2. a call is its steps, to the end

module _ (kinds : List ℕ) (bias : ℕ) where
  pub data Feeds : State → List ℕ → Room → Out → Type 0 where
    over : (t : State) (s : List ℕ) (r : Room) → step kinds bias t s r ≡ halts → Feeds t s r (out t s [])
    first : (t : State) (s : List ℕ) (r : Room) (t' : State) (s' : List ℕ) (es : List Element) {x : Out}
        → step kinds bias t s r ≡ goes t' s' es → Feeds t' s' (less r es) x → Feeds t s r (put es x)

  iterate_halts : (k : ℕ) (t : State) (s : List ℕ) (r : Room) → step kinds bias t s r ≡ halts → iterate kinds bias k t s r ≡ out t s []
  unfolding iterate
  iterate_halts zero t s r e = refl
  iterate_halts (suc k) t s r e = rw (e, iterate)

  iterate_goes : (k : ℕ) (t : State) (s : List ℕ) (r : Room) (t' : State) (s' : List ℕ) (es : List Element) → step kinds bias t s r ≡ goes t' s' es
      → iterate kinds bias (suc k) t s r ≡ put es (iterate kinds bias k t' s' (less r es))
  unfolding iterate
  iterate_goes k t s r t' s' es e = rw (e, iterate)

  feeds_by : (k : ℕ) → ((t : State) (s : List ℕ) (r : Room) → μ t s ≤ k → Feeds t s r (iterate kinds bias k t s r))
      → (t : State) (s : List ℕ) (r : Room) → μ t s ≤ suc k → (x : Step) → step kinds bias t s r ≡ x → Falls (μ t s) x
      → Feeds t s r (iterate kinds bias (suc k) t s r)
  feeds_by k ih t s r h halts e stays = rw (iterate_halts (suc k) t s r e) (over t s r e)
  feeds_by k ih t s r h (goes t' s' es) e (drops t₁ s₁ l) = rw (iterate_goes k t s r t' s' es e) (first t s r t' s' es e (ih t' s' (less r es) (omega arith)))

  feeds_none : (t : State) (s : List ℕ) (r : Room) → μ t s ≤ 0 → (x : Step) → step kinds bias t s r ≡ x → Falls (μ t s) x → Feeds t s r (out t s [])
  feeds_none t s r h halts e stays = over t s r e
  feeds_none t s r h (goes t' s' es) e (drops t₁ s₁ l) = absurd (omega arith)

  iterate_feeds : (k : ℕ) (t : State) (s : List ℕ) (r : Room) → μ t s ≤ k → Feeds t s r (iterate kinds bias k t s r)
  unfolding iterate
  iterate_feeds zero t s r h = feeds_none t s r h (step kinds bias t s r) refl (step_falls kinds bias t s r)
  iterate_feeds (suc k) t s r h = feeds_by k (iterate_feeds k) t s r h (step kinds bias t s r) refl (step_falls kinds bias t s r)

  pub feeds : (t : State) (s : List ℕ) (r : Room) → Feeds t s r (feed kinds bias t s r)
  unfolding feed
  feeds t s r = iterate_feeds (μ t s) t s r (omega arith)

  pub falls_goes : {m : ℕ} (x : Step) {t : State} {s : List ℕ} {es : List Element} → x ≡ goes t s es → Falls m x → μ t s < m
  falls_goes x e h = by (rw e at h)
    where
      by : {m : ℕ} {t : State} {s : List ℕ} {es : List Element} → Falls m (goes t s es) → μ t s < m
      by (drops t s l) = l

  feeds_iterate : {t : State} {s : List ℕ} {r : Room} {x : Out} → Feeds t s r x → (k : ℕ) → μ t s ≤ k → iterate kinds bias k t s r ≡ x
  feeds_iterate (over t s r e) k h = iterate_halts k t s r e
  feeds_iterate (first t s r t' s' es e f) zero h = absurd (omega (arith, falls_goes (step kinds bias t s r) e (step_falls kinds bias t s r)))
  feeds_iterate (first t s r t' s' es e f) (suc k) h =
      let l : μ t' s' < μ t s = falls_goes (step kinds bias t s r) e (step_falls kinds bias t s r) in
      iterate_goes k t s r t' s' es e ∙ ap (put es) (feeds_iterate f k (omega arith))

  -- the three laws of a call
  pub feed_is : {t : State} {s : List ℕ} {r : Room} {x : Out} → Feeds t s r x → feed kinds bias t s r ≡ x
  unfolding feed
  feed_is {t} {s} {r} f = feeds_iterate f (μ t s) (omega arith)

  pub feed_halts : (t : State) (s : List ℕ) (r : Room) → step kinds bias t s r ≡ halts → feed kinds bias t s r ≡ out t s []
  feed_halts t s r e = feed_is (over t s r e)

  pub feed_goes : (t : State) (s : List ℕ) (r : Room) (t' : State) (s' : List ℕ) (es : List Element) → step kinds bias t s r ≡ goes t' s' es
      → feed kinds bias t s r ≡ put es (feed kinds bias t' s' (less r es))
  feed_goes t s r t' s' es e = feed_is (first t s r t' s' es e (feeds t' s' (less r es)))

pub put_nil : (x : Out) → put [] x ≡ x
unfolding put
put_nil (out t s es) = refl

pub put_put : (es fs : List Element) (x : Out) → put es (put fs x) ≡ put (es ++ fs) x
unfolding put
put_put es fs (out t s gs) = ap (out t s) (sym (append_assoc es fs gs))
