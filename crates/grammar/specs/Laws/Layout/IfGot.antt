-- A statement about what was read, if anything was: one rule for what comes after, and one for a choice.
use Rattle.std.specs.Prelude.{◌≡◌, refl, Bool, true, false, List, ℕ}
use Rattle.sizes.specs.Basics.{pick}
use Rattle.grammar.specs.Laws.Layout.Read.{Got, got, no, bind}

pub data IfGot {A : Type 0} (Q : A → List ℕ → ℕ → Type 0) : Got A → Type 0 where
  is_got : {t : A} {r : List ℕ} {p : ℕ} → Q t r p → IfGot Q (got t r p)
  is_no : {n p : ℕ} → IfGot Q (no n p)

pub bind_got : {A B : Type 0} {Q : A → List ℕ → ℕ → Type 0} {R : B → List ℕ → ℕ → Type 0} {x : Got A} {k : A → List ℕ → ℕ → Got B}
    → IfGot Q x → ((t : A) (r : List ℕ) (p : ℕ) → Q t r p → IfGot R (k t r p)) → IfGot R (bind x k)
unfolding bind
bind_got (is_got {t} {r} {p} h) n = n t r p h
bind_got is_no n = is_no

pub pick_got : {A : Type 0} {Q : A → List ℕ → ℕ → Type 0} (b : Bool) {x y : Got A}
    → (b ≡ true → IfGot Q x) → (b ≡ false → IfGot Q y) → IfGot Q (pick b x y)
unfolding pick
pick_got true h k = h refl
pick_got false h k = k refl

-- the statement, of what was read
pub of_got : {A : Type 0} {Q : A → List ℕ → ℕ → Type 0} {t : A} {r : List ℕ} {p : ℕ} → IfGot Q (got t r p) → Q t r p
of_got (is_got q) = q
