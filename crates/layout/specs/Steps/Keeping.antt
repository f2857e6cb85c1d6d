-- Loops over the items of a rule that keep something as they go: one law for every rule and all that may be kept.
use Rattle.std.specs.Prelude.{◌≡◌, List, [], ◌∷◌, drop}
use Rattle.std.proofs.Math.Path.{refl}
use Prim.Native.Nat.{ℕ, suc, ◌+◌, ◌-◌, ◌≤◌, ◌<◌}
use Rattle.std.proofs.Math.Nat.{sub-zero}
use native.Mathlib.Omega.{arith}
use Rattle.grammar.specs.Layout.{Layout, Tree}
use Rattle.grammar.specs.Laws.Layout.Read.{Got, got, no, bind}
use Rattle.grammar.specs.Rule.{Rule, items}
use Rattle.grammar.specs.Laws.Layout.Check.{check_times, check}
use Rattle.layout.specs.Keeps.{Out, on, off, Keeps, keeps_on, keeps_off, Each, each_none, each_more}

-- ---- what an answer says of the reading

pub record Reached {A X : Type 0} (s : List ℕ) (Q : A → ℕ → X → Type 0) (y : Got A) (p : ℕ) (x : X) : Type 0 where
  pub tree : A
  pub is : y ≡ got tree (drop p s) p
  pub keeps : Q tree p x

pub kept_on : {A X : Type 0} {s : List ℕ} {Q : A → ℕ → X → Type 0} {y : Got A} {p : ℕ} {x : X} → Keeps s Q y (on p x) → Reached s Q y p x
kept_on (keeps_on {t = t} e q) = record { tree = t; is = rw e; keeps = q }

pub kept_off : {A X : Type 0} {s : List ℕ} {Q : A → ℕ → X → Type 0} {y : Got A} {n p : ℕ} → Keeps s Q y (off n p) → y ≡ no n p
kept_off keeps_off = refl

-- ---- loops

module _ {a : Layout} {X : Type 0} (s : List ℕ) (k : List (Tree a) → Rule a) (Q : ℕ → X → Tree a → ℕ → X → Type 0) where
  abbrev one : List (Tree a) → List ℕ → ℕ → Got (Tree a)
  one done s₁ at₁ = check (k done) s₁ at₁

  -- what a loop over n items keeps, after i of them, which are `done`, the last first: what becomes of the others becomes of all
  pub record Going (n at : ℕ) (x : X) (i at' : ℕ) (x' : X) (done : List (Tree a)) : Type 0 where
    pub left : (o : Out X) → Keeps s (Each Q at' x') (check_times one done (n - i) (drop at' s) at') o → Keeps s (Each Q at x) (check (items {n = n} k) (drop at s) at) o

  more : {at : ℕ} {x : X} {t : Tree a} {p : ℕ} {y : X} → Q at x t p y → {z : Got (List (Tree a))} {o : Out X} → Keeps s (Each Q p y) z o
      → Keeps s (Each Q at x) (bind z (λ ts s₁ at₁. got (t ∷ ts) s₁ at₁)) o
  unfolding bind
  more h (keeps_on e q) = keeps_on e (each_more h q)
  more h keeps_off = keeps_off

  pub going : (n at : ℕ) (x : X) → Going n at x 0 at x []
  unfolding check
  going n at x = record { left = λ o h. rw sub-zero at h }

  module _ {n at : ℕ} {x : X} {i at' : ℕ} {x' : X} {done : List (Tree a)} (g : Going n at x i at' x' done) where
    pub goes_on : i < n → {t : Tree a} {p : ℕ} {y : X} → check (k done) (drop at' s) at' ≡ got t (drop p s) p → Q at' x' t p y → Going n at x (i + 1) p y (t ∷ done)
    unfolding check_times bind
    goes_on l e q = record {
      left = λ o h. let m : n - i ≡ suc (n - (i + 1)) = omega arith in g.left o (rw (m, e) (more q h));
    }

    pub goes_no : i < n → {m p : ℕ} → check (k done) (drop at' s) at' ≡ no m p → Keeps s (Each Q at x) (check (items {n = n} k) (drop at s) at) (off m p)
    unfolding check_times bind
    goes_no l e = let m : n - i ≡ suc (n - (i + 1)) = omega arith in g.left (off _ _) (rw (m, e) keeps_off)

    pub goes_to : n ≤ i → Keeps s (Each Q at x) (check (items {n = n} k) (drop at s) at) (on at' x')
    unfolding check_times
    goes_to l = let m : n - i ≡ 0 = omega arith in g.left (on at' x') (rw m (keeps_on refl each_none))
