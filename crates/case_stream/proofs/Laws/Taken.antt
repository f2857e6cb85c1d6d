-- Bytes taken, elements written, and where a call with endless room ends.
use Rattle.std.specs.Prelude.{◌≡◌, Bool, true, false, ℕ, ◌+◌, ◌-◌, ◌≤◌, ltb, get_or}
use Rattle.std.proofs.Math.Path.{refl}
use Rattle.std.proofs.Common.{arith}
use mathlib.Core.List.{List, [], ◌∷◌, ◌++◌}
use Rattle.std.proofs.Math.ListN.{length, length-append}
use Rattle.sizes.specs.Basics.{pick}
use Rattle.case_stream.specs.Stream.{Element, limit, ended, bad, full, Says, skip, finish, block, wrong, gives, says}
use Rattle.case_stream.specs.Machine.{State, gather, acting, stopped, Room, endless, has, less, Step, halts, goes, after, gathered, takes, next, blocked, acts, moves, step, Out, out, put, feed, run}
use Rattle.case_stream.proofs.Laws.Steps.{Feeds, over, first, feeds}
use Rattle.case_stream.proofs.Laws.OneAnswer.{Ends, at_end, ends}

abbrev pub taken : State → ℕ
taken (gather at n g) = n
taken (acting at n p c cs k) = n
taken (stopped at n w) = n

data Keeps (m : ℕ) : Step → Type 0 where
  k_halts : Keeps m halts
  k_goes : (t : State) (s : List ℕ) {es : List Element} → taken t + length s ≡ m → Keeps m (goes t s es)

pub data Kept (m : ℕ) : Out → Type 0 where
  kept : (t : State) (s : List ℕ) {es : List Element} → taken t + length s ≡ m → Kept m (out t s es)

keeps_pick : (m : ℕ) (b : Bool) {x y : Step} → Keeps m x → Keeps m y → Keeps m (pick b x y)
unfolding pick
keeps_pick m true h k = h
keeps_pick m false h k = k

after_taken : (at n p : ℕ) (cs : List ℕ) → taken (after at n p cs) ≡ n
unfolding after
after_taken at n p [] = refl
after_taken at n p (c ∷ cs) = refl

gathered_taken : (at n : ℕ) (g : List ℕ) → taken (gathered at n g) ≡ n
unfolding gathered pick
gathered_taken at n g = by (ltb (length g) 8)
  where
    by : (b : Bool) → taken (pick b (gather at n g) (after at n (n - 8) g)) ≡ n
    by true = refl
    by false = after_taken at n (n - 8) g

module _ (kinds : List ℕ) (bias : ℕ) where
  acts_keeps : (y : Says) (at n p c : ℕ) (cs k s : List ℕ) → Keeps (n + length s) (acts kinds bias y at n p c cs k s)
  unfolding acts blocked takes
  acts_keeps skip at n p c cs k s = k_goes (after at n (p + 1) cs) s (omega (arith, after_taken at n (p + 1) cs))
  acts_keeps finish at n p c cs k s = k_goes (stopped at n ended) s (omega arith)
  acts_keeps wrong at n p c cs k s = k_goes (stopped at n (bad p)) s (omega arith)
  acts_keeps (gives e) at n p c cs k s = k_goes (after (next kinds bias at) n (p + 1) cs) s (omega (arith, after_taken (next kinds bias at) n (p + 1) cs))
  acts_keeps block at n p c cs k [] = k_halts
  acts_keeps block at n p c cs k (b ∷ bs) =
      keeps_pick _ (ltb n limit)
      (keeps_pick _ (ltb (length (k ++ b ∷ [])) 8)
      (k_goes (acting at (n + 1) p c cs (k ++ b ∷ [])) bs (omega arith))
      (k_goes (after (next kinds bias at) (n + 1) (p + 1) cs) bs (omega (arith, after_taken (next kinds bias at) (n + 1) (p + 1) cs))))
      (k_goes (stopped at n full) (b ∷ bs) (omega arith))

  moves_keeps : (t : State) (s : List ℕ) → Keeps (taken t + length s) (moves kinds bias t s)
  unfolding moves takes
  moves_keeps (gather at n g) [] = k_halts
  moves_keeps (gather at n g) (b ∷ bs) =
      keeps_pick _ (ltb n limit)
      (k_goes (gathered at (n + 1) (g ++ b ∷ [])) bs (omega (arith, gathered_taken at (n + 1) (g ++ b ∷ []))))
      (k_goes (stopped at n full) (b ∷ bs) (omega arith))
  moves_keeps (acting at n p c cs k) s = acts_keeps (says (get_or kinds at 0) bias c) at n p c cs k s
  moves_keeps (stopped at n w) s = k_halts

  keeps_goes : {m : ℕ} (x : Step) {t : State} {s : List ℕ} {es : List Element} → x ≡ goes t s es → Keeps m x → taken t + length s ≡ m
  keeps_goes x e h = by (rw e at h)
    where
      by : {m : ℕ} {t : State} {s : List ℕ} {es : List Element} → Keeps m (goes t s es) → taken t + length s ≡ m
      by (k_goes t s l) = l

  put_kept : {m : ℕ} (es : List Element) {x : Out} → Kept m x → Kept m (put es x)
  unfolding put
  put_kept es (kept t s e) = kept t s e

  feeds_kept : {t : State} {s : List ℕ} {r : Room} {x : Out} → Feeds kinds bias t s r x → Kept (taken t + length s) x
  unfolding step
  feeds_kept (over t s r e) = kept t s refl
  feeds_kept (first t s r t' s' es {x} e f) =
      let k : taken t' + length s' ≡ taken t + length s = keeps_goes (step kinds bias t s r) e (keeps_pick _ (has r) (moves_keeps t s) k_halts) in
      put_kept es (rw k at (feeds_kept f))

  -- bytes taken and bytes left are those that were there
  pub feed_keeps : (t : State) (s : List ℕ) (r : Room) (u : State) (rest : List ℕ) (es : List Element) → feed kinds bias t s r ≡ out u rest es
      → taken u + length rest ≡ taken t + length s
  feed_keeps t s r u rest es e = by (rw e at (feeds_kept (feeds kinds bias t s r)))
    where
      by : {m : ℕ} → Kept m (out u rest es) → taken u + length rest ≡ m
      by (kept t s h) = h

  -- a call with room ends where nothing moves
  pub run_idle : (t : State) (s : List ℕ) (u : State) (rest : List ℕ) (es : List Element) → run kinds bias t s ≡ out u rest es → moves kinds bias u rest ≡ halts
  unfolding step has less pick
  run_idle t s u rest es e = by (ends kinds bias (rw e at (feeds kinds bias t s endless)))
    where
      by : Ends kinds bias endless (out u rest es) → moves kinds bias u rest ≡ halts
      by (at_end h) = h

-- ---- no more elements than codes: those held and those taken

abbrev pub held : State → ℕ
held (gather at n g) = length g
held (acting at n p c cs k) = 1 + length cs
held (stopped at n w) = 0

data Spends (m : ℕ) : Step → Type 0 where
  s_halts : Spends m halts
  s_goes : (t : State) (s : List ℕ) (es : List Element) → held t + length s + length es ≤ m → Spends m (goes t s es)

data Spent (m : ℕ) : Out → Type 0 where
  spent : (t : State) (s : List ℕ) (es : List Element) → held t + length s + length es ≤ m → Spent m (out t s es)

spends_pick : (m : ℕ) (b : Bool) {x y : Step} → Spends m x → Spends m y → Spends m (pick b x y)
unfolding pick
spends_pick m true h k = h
spends_pick m false h k = k

after_held : (at n p : ℕ) (cs : List ℕ) → held (after at n p cs) ≡ length cs
unfolding after
after_held at n p [] = refl
after_held at n p (c ∷ cs) = omega arith

gathered_held : (at n : ℕ) (g : List ℕ) → held (gathered at n g) ≡ length g
unfolding gathered pick
gathered_held at n g = by (ltb (length g) 8)
  where
    by : (b : Bool) → held (pick b (gather at n g) (after at n (n - 8) g)) ≡ length g
    by true = refl
    by false = after_held at n (n - 8) g

module _ (kinds : List ℕ) (bias : ℕ) where
  acts_spends : (y : Says) (at n p c : ℕ) (cs k s : List ℕ) → Spends (1 + length cs + length s) (acts kinds bias y at n p c cs k s)
  unfolding acts blocked takes
  acts_spends skip at n p c cs k s = s_goes (after at n (p + 1) cs) s [] (omega (arith, after_held at n (p + 1) cs))
  acts_spends finish at n p c cs k s = s_goes (stopped at n ended) s [] (omega arith)
  acts_spends wrong at n p c cs k s = s_goes (stopped at n (bad p)) s [] (omega arith)
  acts_spends (gives e) at n p c cs k s = s_goes (after (next kinds bias at) n (p + 1) cs) s (e ∷ []) (omega (arith, after_held (next kinds bias at) n (p + 1) cs))
  acts_spends block at n p c cs k [] = s_halts
  acts_spends block at n p c cs k (b ∷ bs) =
      spends_pick _ (ltb n limit)
      (spends_pick _ (ltb (length (k ++ b ∷ [])) 8)
      (s_goes (acting at (n + 1) p c cs (k ++ b ∷ [])) bs [] (omega arith))
      (s_goes (after (next kinds bias at) (n + 1) (p + 1) cs) bs ((k ++ b ∷ []) ∷ []) (omega (arith, after_held (next kinds bias at) (n + 1) (p + 1) cs))))
      (s_goes (stopped at n full) (b ∷ bs) [] (omega arith))

  moves_spends : (t : State) (s : List ℕ) → Spends (held t + length s) (moves kinds bias t s)
  unfolding moves takes
  moves_spends (gather at n g) [] = s_halts
  moves_spends (gather at n g) (b ∷ bs) =
      spends_pick _ (ltb n limit)
      (s_goes (gathered at (n + 1) (g ++ b ∷ [])) bs [] (omega (arith, gathered_held at (n + 1) (g ++ b ∷ []), length-append g (b ∷ []))))
      (s_goes (stopped at n full) (b ∷ bs) [] (omega arith))
  moves_spends (acting at n p c cs k) s = acts_spends (says (get_or kinds at 0) bias c) at n p c cs k s
  moves_spends (stopped at n w) s = s_halts

  spends_goes : {m : ℕ} (x : Step) {t : State} {s : List ℕ} {es : List Element} → x ≡ goes t s es → Spends m x → held t + length s + length es ≤ m
  spends_goes x e h = by (rw e at h)
    where
      by : {m : ℕ} {t : State} {s : List ℕ} {es : List Element} → Spends m (goes t s es) → held t + length s + length es ≤ m
      by (s_goes t s es l) = l

  put_spent : {m n : ℕ} (es : List Element) {x : Out} → Spent m x → m + length es ≤ n → Spent n (put es x)
  unfolding put
  put_spent es (spent t s fs l) h = spent t s (es ++ fs) (omega (arith, length-append es fs))

  feeds_spent : {t : State} {s : List ℕ} {r : Room} {x : Out} → Feeds kinds bias t s r x → Spent (held t + length s) x
  unfolding step
  feeds_spent (over t s r e) = spent t s [] (omega arith)
  feeds_spent (first t s r t' s' es {x} e f) =
      put_spent es (feeds_spent f) (spends_goes (step kinds bias t s r) e (spends_pick _ (has r) (moves_spends t s) s_halts))

  -- each element needs a code, which the state held or which is one of the bytes taken
  pub feed_spends : (t : State) (s : List ℕ) (r : Room) (u : State) (rest : List ℕ) (es : List Element) → feed kinds bias t s r ≡ out u rest es
      → held u + length rest + length es ≤ held t + length s
  feed_spends t s r u rest es e = by (rw e at (feeds_spent (feeds kinds bias t s r)))
    where
      by : {m : ℕ} → Spent m (out u rest es) → held u + length rest + length es ≤ m
      by (spent t s es h) = h
