-- A statement about a refusal, if it is one: one rule for what comes after, and one for a choice.
use Rattle.std.specs.Prelude.{◌≡◌, refl, Bool, true, false, List, ℕ}
use Rattle.sizes.specs.Basics.{pick}
use Rattle.grammar.specs.Laws.Layout.Read.{Got, got, no, bind}
use Rattle.grammar.specs.Laws.Layout.IfGot.{IfGot, is_got, is_no}

pub data IfNo {A : Type 0} (R : ℕ → ℕ → Type 0) : Got A → Type 0 where
  if_got : {t : A} {r : List ℕ} {p : ℕ} → IfNo R (got t r p)
  if_no : {n p : ℕ} → R n p → IfNo R (no n p)

-- one number and one place
pub data Only (X : Type 0) (m q : ℕ) : ℕ → ℕ → Type 0 where
  only : X → Only X m q m q

-- x is what is read first: of what it reads Q holds, and of its refusal R
pub bind_no : {A B : Type 0} {Q : A → List ℕ → ℕ → Type 0} {R R' : ℕ → ℕ → Type 0} {x : Got A} {k : A → List ℕ → ℕ → Got B}
    → IfGot Q x → IfNo R x → ((n p : ℕ) → R n p → R' n p) → ((t : A) (r : List ℕ) (p : ℕ) → Q t r p → IfNo R' (k t r p)) → IfNo R' (bind x k)
unfolding bind
bind_no (is_got {t} {r} {p} q) h f g = g t r p q
bind_no is_no (if_no {n} {p} h) f g = if_no (f n p h)

pub bind_only : {A B : Type 0} {Q : A → List ℕ → ℕ → Type 0} {X : Type 0} {m q : ℕ} {R : ℕ → ℕ → Type 0} {x : Got A} {k : A → List ℕ → ℕ → Got B}
    → IfGot Q x → IfNo (Only X m q) x → (X → R m q) → ((t : A) (r : List ℕ) (p : ℕ) → Q t r p → IfNo R (k t r p)) → IfNo R (bind x k)
unfolding bind
bind_only (is_got {t} {r} {p} q) h f g = g t r p q
bind_only is_no (if_no (only x)) f g = if_no (f x)

-- nothing is refused after it
pub last_no : {A B : Type 0} {R R' : ℕ → ℕ → Type 0} {x : Got A} {k : A → List ℕ → ℕ → Got B}
    → IfNo R x → ((n p : ℕ) → R n p → R' n p) → ((t : A) (r : List ℕ) (p : ℕ) → IfNo R' (k t r p)) → IfNo R' (bind x k)
unfolding bind
last_no (if_got {t} {r} {p}) f g = g t r p
last_no (if_no {n} {p} h) f g = if_no (f n p h)

pub pick_no : {A : Type 0} {R : ℕ → ℕ → Type 0} (b : Bool) {x y : Got A} → (b ≡ true → IfNo R x) → (b ≡ false → IfNo R y) → IfNo R (pick b x y)
unfolding pick
pick_no true h k = h refl
pick_no false h k = k refl

pub of_no : {A : Type 0} {R : ℕ → ℕ → Type 0} {n p : ℕ} → IfNo {A = A} R (no n p) → R n p
of_no (if_no h) = h

-- a weaker statement
pub so_no : {A : Type 0} {R R' : ℕ → ℕ → Type 0} {x : Got A} → ((n p : ℕ) → R n p → R' n p) → IfNo R x → IfNo R' x
so_no f if_got = if_got
so_no f (if_no {n} {p} h) = if_no (f n p h)
