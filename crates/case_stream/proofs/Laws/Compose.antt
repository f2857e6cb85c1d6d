-- Feeding a ++ b is feeding a, then b: more bytes and more room change nothing of what was done.
use Rattle.std.specs.Prelude.{◌≡◌, Bool, ℕ, zero, suc, ◌-◌, ◌≤◌, ltb, length, get_or}
use Rattle.std.proofs.Math.Path.{refl}
use Rattle.std.proofs.Common.{sym, ap, ◌∙◌, arith, length-append}
use Rattle.std.proofs.Math.Bool.{true, false}
use mathlib.Core.List.{List, [], ◌∷◌, ◌++◌}
use Rattle.sizes.specs.Basics.{pick}
use Rattle.case_stream.specs.Stream.{Element, limit, Says, skip, finish, block, wrong, gives, says}
use Rattle.case_stream.specs.Machine.{State, gather, acting, stopped, Room, fits, endless, has, less, Step, halts, goes, takes, blocked, acts, moves, step, Out, out, put, feed}
use Rattle.case_stream.proofs.Laws.Steps.{Feeds, over, first, feeds, feed_goes, put_nil, put_put}

pub less_less : (r : Room) (es fs : List Element) → less (less r es) fs ≡ less r (es ++ fs)
unfolding less
less_less (fits r) es fs = rw length-append (ap fits (omega arith))
less_less endless es fs = refl

pub less_nil : (r : Room) → less r [] ≡ r
unfolding less
less_nil (fits r) = ap fits (omega arith)
less_nil endless = refl

pub data Wider : Room → Room → Type 0 where
  w_fits : {a b : ℕ} → a ≤ b → Wider (fits a) (fits b)
  w_endless : {r : Room} → Wider r endless

wider_less : {r r' : Room} (es : List Element) → Wider r r' → Wider (less r es) (less r' es)
unfolding less
wider_less es (w_fits {a} {b} h) = let k : a - length es ≤ b - length es = omega arith in w_fits k
wider_less es w_endless = w_endless

wider_refl : (r : Room) → Wider r r
wider_refl (fits a) = let k : a ≤ a = omega arith in w_fits k
wider_refl endless = w_endless

has_wider : (r r' : Room) → Wider r r' → has r ≡ true → has r' ≡ true
unfolding has
has_wider (fits zero) (fits b) (w_fits h) e = cc
has_wider (fits (suc a)) (fits zero) (w_fits h) e = absurd (omega arith)
has_wider (fits (suc a)) (fits (suc b)) (w_fits h) e = refl
has_wider endless (fits b) x4 e = elim x4 [ ]
has_wider r endless w_endless e = refl

-- the second step does what the first does, with the bytes b behind
data More (b : List ℕ) : Step → Step → Type 0 where
  m_halts : {y : Step} → More b halts y
  m_goes : {t : State} {s : List ℕ} {es : List Element} → More b (goes t s es) (goes t (s ++ b) es)

more_pick : (b : List ℕ) (p : Bool) {w x y z : Step} → More b w x → More b y z → More b (pick p w y) (pick p x z)
unfolding pick
more_pick b true h k = h
more_pick b false h k = k

more_goes : {b : List ℕ} (x y : Step) {t : State} {s : List ℕ} {es : List Element} → More b x y → x ≡ goes t s es → y ≡ goes t (s ++ b) es
more_goes halts y m_halts e = cc
more_goes (goes t s es) y m_goes e = cc

module _ (kinds : List ℕ) (bias : ℕ) (b : List ℕ) where
  more_acts : (y : Says) (at n p c : ℕ) (cs k s : List ℕ) → More b (acts kinds bias y at n p c cs k s) (acts kinds bias y at n p c cs k (s ++ b))
  unfolding acts takes blocked
  more_acts skip at n p c cs k s = m_goes
  more_acts finish at n p c cs k s = m_goes
  more_acts wrong at n p c cs k s = m_goes
  more_acts (gives e) at n p c cs k s = m_goes
  more_acts block at n p c cs k [] = m_halts
  more_acts block at n p c cs k (x ∷ xs) = more_pick b (ltb n limit) (more_pick b (ltb (length (k ++ x ∷ [])) 8) m_goes m_goes) m_goes

  more_moves : (t : State) (s : List ℕ) → More b (moves kinds bias t s) (moves kinds bias t (s ++ b))
  unfolding moves takes
  more_moves (gather at n g) [] = m_halts
  more_moves (gather at n g) (x ∷ xs) = more_pick b (ltb n limit) m_goes m_goes
  more_moves (acting at n p c cs k) s = more_acts (says (get_or kinds at 0) bias c) at n p c cs k s
  more_moves (stopped at n w) s = m_halts

  more_step : (t : State) (s : List ℕ) (r r' : Room) → Wider r r' → More b (step kinds bias t s r) (step kinds bias t (s ++ b) r')
  unfolding step pick
  more_step t s r r' w = by (has r) refl
    where
      by : (p : Bool) → has r ≡ p → More b (pick p (moves kinds bias t s) halts) (pick (has r') (moves kinds bias t (s ++ b)) halts)
      by true e = rw (has_wider r r' w e) (more_moves t s)
      by false e = m_halts

  -- what is done from here with the bytes b behind, in the room r
  abbrev onward : Room → Out → Out
  onward r (out t s es) = put es (feed kinds bias t (s ++ b) (less r es))

  onward_put : (r : Room) (es : List Element) (x : Out) → put es (onward (less r es) x) ≡ onward r (put es x)
  unfolding put
  onward_put r es (out t s fs) = put_put es fs (feed kinds bias t (s ++ b) (less (less r es) fs)) ∙ rw less_less

  carries : {t : State} {s : List ℕ} {r : Room} {x : Out} → Feeds kinds bias t s r x → (r' : Room) → Wider r r'
      → feed kinds bias t (s ++ b) r' ≡ onward r' x
  carries (over t s r e) r' w = sym (put_nil (feed kinds bias t (s ++ b) (less r' [])) ∙ rw less_nil)
  carries (first t s r t' s' es {x} e f) r' w =
      let e' = more_goes (step kinds bias t s r) (step kinds bias t (s ++ b) r') (more_step t s r r' w) e in
      feed_goes kinds bias t (s ++ b) r' t' (s' ++ b) es e'
      ∙ ap (put es) (carries f (less r' es) (wider_less es w))
      ∙ onward_put r' es x

-- "Feeding a ++ b is feeding a, then b", in the room that is left, or in any wider one.
pub compose : (kinds : List ℕ) (bias : ℕ) (t : State) (a b : List ℕ) (r r' : Room) → Wider r r' → (u : State) (rest : List ℕ) (es : List Element)
    → feed kinds bias t a r ≡ out u rest es → feed kinds bias t (a ++ b) r' ≡ put es (feed kinds bias u (rest ++ b) (less r' es))
compose kinds bias t a b r r' w u rest es e = carries kinds bias b (rw e at (feeds kinds bias t a r)) r' w
