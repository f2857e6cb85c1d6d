-- Numbers seen so far: a bound above all of them, and their marks.
use Rattle.std.specs.Prelude.{◌≡◌, refl, Bool, true, false, not, List, [], ◌∷◌, ℕ, ◌≤◌, ◌<◌, eqb, length, get_or, set, replicate}
use Rattle.std.proofs.Common.{◌∙◌, arith, eq-eqb, eqb-true, ne_eqb, length-set, get_or-set_same, get_or-set_other}
use Rattle.std.proofs.lemmas.Bool.{eqb-false}
use Rattle.std.proofs.lemmas.List.{length-replicate, get_or-replicate}
use Rattle.sizes.specs.Basics.{among, pick}
use Rattle.grammar.specs.Layout.{All, all_none, all_more}

-- ---- a bound

abbrev pub Below : ℕ → List ℕ → Type 0
Below top xs = All (λ x. x < top) xs

pub not_among : (top x : ℕ) {xs : List ℕ} → Below top xs → top ≤ x → among x xs ≡ false
unfolding among pick
not_among top x all_none h = refl
not_among top x (all_more {x = y} l r) h = rw (ne_eqb x y (omega arith)) (not_among top x r h)

pub higher : {top top' : ℕ} {xs : List ℕ} → top ≤ top' → Below top xs → Below top' xs
higher h all_none = all_none
higher h (all_more {x = x} l r) = all_more {x = x} (omega arith) (higher h r)

-- ---- marks

-- the mark at x is 0 exactly where x was not seen
pub record Marks (m : ℕ) (marks seen : List ℕ) : Type 0 where
  pub long : length marks ≡ m
  pub says : (x : ℕ) → x < m → eqb (get_or marks x 0) 0 ≡ not (among x seen)

pub no_marks : (m : ℕ) → Marks m (replicate m 0) []
unfolding among
no_marks m = record { long = length-replicate m 0; says = λ x h. eq-eqb _ 0 (get_or-replicate m x 0 0 h) }

pub all_clear : (m : ℕ) → Marks (length (replicate {A = ℕ} m 0)) (replicate m 0) []
all_clear m = rw (length-replicate {A = ℕ} m 0) (no_marks m)

one_more : (m : ℕ) (marks seen : List ℕ) (x : ℕ) → Marks m marks seen → x < m → (y : ℕ) → y < m → (b : Bool) → eqb y x ≡ b
    → eqb (get_or (set marks x 1) y 0) 0 ≡ not (among y (x ∷ seen))
unfolding among
one_more m marks seen x r h y l true e =
    let q = eqb-true y x e in
    let here : x < length marks = omega (arith, r.long) in
    rw (q, get_or-set_same marks x 1 0 here, eq-eqb x x refl)
one_more m marks seen x r h y l false e = rw (e, get_or-set_other marks x y 1 0 (eqb-false y x e)) (r.says y l)

pub marked : (m : ℕ) (marks seen : List ℕ) (x : ℕ) → Marks m marks seen → x < m → Marks m (set marks x 1) (x ∷ seen)
marked m marks seen x r h = record { long = length-set marks x 1 ∙ r.long; says = λ y l. one_more m marks seen x r h y l (eqb y x) refl }
