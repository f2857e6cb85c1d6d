-- One symbol after the other, a refusal that stays, and repetition.
use Rattle.std.specs.Prelude.{◌≡◌, refl, Bool, true, false, List, ◌∷◌, ℕ, zero, suc, ◌-◌, ◌≤◌, ◌<◌, drop}
use Rattle.std.proofs.Common.{ap, sym, ◌∙◌, subst, lt_irrefl, sub-one, arith}
use Rattle.layout.specs.Step.{Step}
use Rattle.std.specs.Prelude.{Ok, Err}
use Rattle.sizes.specs.Basics.{pick}
use Rattle.grammar.specs.Layout.{Layout, empty, ◌▸◌, times, nothing}
use Rattle.grammar.specs.Laws.Layout.Read.{Got, got, no, bind, read_times, read}
use Rattle.grammar.specs.Laws.Layout.Places.{Within, w_got, w_no, within, tail}
use Rattle.layout.specs.Reads.{forget, step, chain, ReadsTo, refused}

-- the tree does not matter
pub forget_map : {A B : Type 0} (g : A → B) (x : Got A) → forget (bind x (λ t s at. got (g t) s at)) ≡ forget x
unfolding bind
forget_map g (got t s at) = refl
forget_map g (no r p) = refl

-- nor what is left
pub forget_rest : {A : Type 0} (rest : List ℕ) (x : Got A) → forget (bind x (λ t s at. got t rest at)) ≡ forget x
unfolding bind
forget_rest rest (got t s at) = refl
forget_rest rest (no r p) = refl

-- of two readings one
pub forget_pick : {A : Type 0} (b : Bool) (x y : Got A) → pick b (forget x) (forget y) ≡ forget (pick b x y)
unfolding pick
forget_pick true x y = refl
forget_pick false x y = refl

-- what comes after a reading in s comes after its place
forget_bind : {A B : Type 0} (s : List ℕ) (at : ℕ) {x : Got A} (f : A → List ℕ → ℕ → Got B) (F : ℕ → Step) → Within (drop at s) at x
    → ((t : A) (p : ℕ) → forget (f t (drop p s) p) ≡ F p) → forget (bind x f) ≡ chain (forget x) F
unfolding bind chain
forget_bind s at f F (w_got {t} {r} {p} q) h = rw (tail s q) (h t p)
forget_bind s at f F (w_no l m) h = refl

pub step_then : (a b : Layout) (s : List ℕ) (at : ℕ) → step (a ▸ b) s at ≡ chain (step a s at) (step b s)
unfolding step read
step_then a b s at =
    forget_bind s at (λ t s₁ at₁. bind (read b s₁ at₁) (λ u s₂ at₂. got (t, u) s₂ at₂)) (step b s) (within a (drop at s) at)
    (λ t p. forget_map (λ u. (t, u)) (read b (drop p s) p))

pub step_times : (a : Layout) (n : ℕ) (s : List ℕ) (at : ℕ) → step (times (suc n) a) s at ≡ chain (step a s at) (step (times n a) s)
unfolding step read read_times
step_times a n s at =
    forget_bind s at (λ t s₁ at₁. bind (read_times (read a) n s₁ at₁) (λ ts s₂ at₂. got (t ∷ ts) s₂ at₂)) (step (times n a) s) (within a (drop at s) at)
    (λ t p. forget_map (λ ts. t ∷ ts) (read_times (read a) n (drop p s) p))

chain_chain : (st : Step) (f g : ℕ → Step) → chain (chain st f) g ≡ chain st (λ at. chain (f at) g)
unfolding chain
chain_chain (Ok at) f g = refl
chain_chain (Err (r, p)) f g = refl

chain_ext : (st : Step) {f g : ℕ → Step} → ((at : ℕ) → f at ≡ g at) → chain st f ≡ chain st g
unfolding chain
chain_ext (Ok at) h = h at
chain_ext (Err (r, p)) h = refl

pub chain_next : (st : Step) → chain st (λ at. Ok at) ≡ st
unfolding chain
chain_next (Ok at) = refl
chain_next (Err (r, p)) = refl

-- a step that is a refusal
pub data Refuses : Step → Type 0 where
  refuses : {r p : ℕ} → Refuses (Err (r, p))

-- it stays
pub chain_refuses : {x : Step} (k : ℕ → Step) → Refuses x → chain x k ≡ x
unfolding chain
chain_refuses k refuses = refl

-- a law of `step` as a law of `ReadsTo`: if g is a and then b, at every position
split : {g a b : Layout} {s : List ℕ} {st q r : Step} → ((at : ℕ) → step g s at ≡ chain (step a s at) (step b s))
    → ReadsTo b s q r → ReadsTo a s st q → ReadsTo g s st r
split {g} {a} {b} {s} {st} h e f =
    record { is = e.is ∙ ap (λ (x : Step). chain x (step b s)) f.is ∙ chain_chain st (step a s) (step b s) ∙ sym (chain_ext st h) }

infixr 20 ◌◂◌
pub then : {a b : Layout} {s : List ℕ} {st q r : Step} → ReadsTo b s q r → ReadsTo a s st q → ReadsTo (a ▸ b) s st r
then {a} {b} {s} e f = split (step_then a b s) e f

-- the same, to write a long chain: the last symbol's first
abbrev pub ◌◂◌ : {a b : Layout} {s : List ℕ} {st q r : Step} → ReadsTo b s q r → ReadsTo a s st q → ReadsTo (a ▸ b) s st r
e ◂ f = then e f

-- a refusal stays
pub kept : {g : Layout} {s : List ℕ} {st : Step} {n p : ℕ} → st ≡ Err (n, p) → ReadsTo g s st st
unfolding chain
kept {g} {s} {st} {n} {p} e = rw e (record { is = refl })

-- what is read from a position after a step that is that position
pub from_next : {g : Layout} {s : List ℕ} {st r : Step} {at : ℕ} → st ≡ Ok at → ReadsTo g s (Ok at) r → ReadsTo g s st r
from_next e h = rw e h

-- and after a refusal
pub from_refused : {g : Layout} {s : List ℕ} {st : Step} {n p : ℕ} → st ≡ Err (n, p) → ReadsTo g s st (Err (n, p))
unfolding chain
from_refused e = rw e (record { is = refl })

-- what is read in the same bytes
pub in_same : {g : Layout} {s w : List ℕ} {st r : Step} → w ≡ s → ReadsTo g w st r → ReadsTo g s st r
in_same {g} {st = st} {r = r} e h = subst (λ (x : List ℕ). ReadsTo g x st r) e h

pub empty_of : {s : List ℕ} {st : Step} → ReadsTo empty s st st
unfolding step read
empty_of {s} {st} = record { is = sym (chain_next st) }

nothing_chain : (s : List ℕ) (st : Step) → refused st ≡ chain st (step nothing s)
unfolding step read chain
nothing_chain s (Ok at) = refl
nothing_chain s (Err (r, p)) = refl

pub nothing_of : {s : List ℕ} {st r : Step} → r ≡ refused st → ReadsTo nothing s st r
nothing_of {s} {st} e = record { is = e ∙ nothing_chain s st }

-- ---- that many times

pub times_none : {a : Layout} {s : List ℕ} {st : Step} (n : ℕ) → n ≤ 0 → ReadsTo (times n a) s st st
unfolding step read read_times
times_none {st = st} n h = let e : n ≡ 0 = omega arith in rw e (record { is = sym (chain_next st) })

pub times_more : {a : Layout} {s : List ℕ} {st q r : Step} (n : ℕ) → 0 < n → ReadsTo a s st q → ReadsTo (times (n - 1) a) s q r → ReadsTo (times n a) s st r
times_more zero h e f = absurd (lt_irrefl 0 h)
times_more {a} {s} (suc n) h e f = split (step_times a n s) (simp sub-one at f) e

-- what a loop keeps: what k more take at to, n take st to
abbrev pub Left : Layout → List ℕ → ℕ → Step → ℕ → Step → Type 0
Left a s n st k at = (r : Step) → ReadsTo (times k a) s at r → ReadsTo (times n a) s st r

pub left_more : {a : Layout} {s : List ℕ} {n k : ℕ} {st at q : Step} → Left a s n st k at → 0 < k → ReadsTo a s at q → Left a s n st (k - 1) q
left_more {k = k} inv h e = λ r f. inv r (times_more k h e f)

pub left_none : {a : Layout} {s : List ℕ} {n k : ℕ} {st at : Step} → Left a s n st k at → k ≤ 0 → ReadsTo (times n a) s st at
left_none {k = k} inv h = inv _ (times_none k h)

pub left_kept : {a : Layout} {s : List ℕ} {n k : ℕ} {st at : Step} {x p : ℕ} → Left a s n st k at → at ≡ Err (x, p) → ReadsTo (times n a) s st at
left_kept inv e = inv _ (kept e)
