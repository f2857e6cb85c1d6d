-- Products of some of a table's dimensions, in any order: where no n is 0 they are at most the table's.
use Rattle.std.specs.Prelude.{◌≡◌, refl, Bool, List, [], ◌∷◌, ℕ, zero, suc, ◌*◌, ◌≤◌, ◌<◌, eqb}
use Rattle.std.proofs.Common.{sym, ◌∙◌, mul_comm, mul_assoc, mul-le-mul, arith}
use Rattle.std.proofs.Math.Bool.{true, false}
use Rattle.std.proofs.Math.Nat.{one-mul}
use borrow.Author.Tests.{eqb-true, eqb-false, ne_eqb}
use Rattle.sizes.specs.Basics.{among, pick}
use Rattle.grammar.specs.Once.{Distinct}
use Rattle.grammar.specs.Index.{product}
use Rattle.position.specs.Axes.{span}
use Rattle.position.specs.Laws.Among.{first_among, later_among}
use Rattle.position.specs.Laws.Axis.{coordinate_inside}
use Rattle.position.specs.Laws.Table.{down, below_down, down_below, down_distinct}

-- the n of some dimensions, 1 for the others
only : (ℕ → ℕ) → List ℕ → ℕ → ℕ
only n ds e = pick (among e ds) (n e) 1

span_same : (m n : ℕ → ℕ) (d : ℕ) → ((e : ℕ) → e < d → m e ≡ n e) → span m (down d) ≡ span n (down d)
unfolding product down
span_same m n zero h = refl
span_same m n (suc d) h = rw (h d (omega arith), span_same m n d (λ e l. h e (omega arith)))

swap : (a b c : ℕ) → a * (b * c) ≡ b * (a * c)
swap a b c = sym (mul_assoc a b c) ∙ rw (mul_comm a b) (mul_assoc b a c)

-- a dimension x whose n was 1 and becomes c
module _ (m n : ℕ → ℕ) (x c : ℕ) (one : m x ≡ 1) (new : n x ≡ c) (others : (e : ℕ) → (e ≡ x → ⊥) → n e ≡ m e) where
  raised_by : (d : ℕ) → x < suc d → (b : Bool) → eqb x d ≡ b → (x < d → span n (down d) ≡ c * span m (down d)) → span n (down (suc d)) ≡ c * span m (down (suc d))
  unfolding product down
  raised_by d l true q i =
      let p : x ≡ d = eqb-true x d q in
      rw (← p, new, one, one-mul, span_same n m x (λ e t. others e (λ s. omega arith)))
  raised_by d l false q i =
      let f = eqb-false x d q in
      rw (others d (λ s. f (sym s)), i (omega arith)) (swap (m d) c (span m (down d)))

  raised : (d : ℕ) → x < d → span n (down d) ≡ c * span m (down d)
  raised zero l = absurd (omega arith)
  raised (suc d) l = raised_by d l (eqb x d) refl (raised d)

only_here : (n : ℕ → ℕ) (x : ℕ) (ds : List ℕ) → only n (x ∷ ds) x ≡ n x
unfolding only pick
only_here n x ds = rw (first_among x ds)

only_absent : (n : ℕ → ℕ) (x : ℕ) (ds : List ℕ) → among x ds ≡ false → only n ds x ≡ 1
unfolding only pick
only_absent n x ds h = rw h

only_other : (n : ℕ → ℕ) (x : ℕ) (ds : List ℕ) (e : ℕ) → (e ≡ x → ⊥) → only n (x ∷ ds) e ≡ only n ds e
unfolding only among
only_other n x ds e h = rw (ne_eqb e x h)

span_one : (n : ℕ → ℕ) (d : ℕ) → span (only n []) (down d) ≡ 1
unfolding product down only among pick
span_one n zero = refl
span_one n (suc d) = rw one-mul (span_one n d)

span_only : (n : ℕ → ℕ) (d : ℕ) (ds : List ℕ) → Distinct ds → ((e : ℕ) → among e ds ≡ true → e < d) → span n ds ≡ span (only n ds) (down d)
unfolding product
span_only n d [] o h = sym (span_one n d)
span_only n d (x ∷ ds) o h =
    rw (span_only n d ds o.1 (λ e m. h e (later_among e x ds m)))
    (sym (raised (only n ds) (only n (x ∷ ds)) x (n x) (only_absent n x ds o.0) (only_here n x ds) (only_other n x ds) d (h x (first_among x ds))))

span_le : (m n : ℕ → ℕ) (d : ℕ) → ((e : ℕ) → e < d → m e ≤ n e) → span m (down d) ≤ span n (down d)
unfolding product down
span_le m n zero h = omega arith
span_le m n (suc d) h = mul-le-mul (h d (omega arith)) (span_le m n d (λ e l. h e (omega arith)))

-- no n is 0 where the product isn't
n_positive : (n : ℕ → ℕ) (d : ℕ) → 0 < span n (down d) → (e : ℕ) → e < d → 0 < n e
n_positive n d h e l = let q = coordinate_inside n (down d) 0 h e (down_below d e l) in omega arith

only_le_by : (b : Bool) (n : ℕ) → 0 < n → pick b n 1 ≤ n
unfolding pick
only_le_by true n h = omega arith
only_le_by false n h = omega arith

only_le : (n : ℕ → ℕ) (ds : List ℕ) (e : ℕ) → 0 < n e → only n ds e ≤ n e
unfolding only
only_le n ds e h = only_le_by (among e ds) (n e) h

-- Some: different dimensions of a table that has places
pub some_places : (n : ℕ → ℕ) (d : ℕ) (ds : List ℕ) → 0 < span n (down d) → Distinct ds → ((e : ℕ) → among e ds ≡ true → e < d) → span n ds ≤ span n (down d)
some_places n d ds p o h = rw (span_only n d ds o h) (span_le (only n ds) n d (λ e l. only_le n ds e (n_positive n d p e l)))

-- First: the first i dimensions
pub first_places : (n : ℕ → ℕ) (i d : ℕ) → i ≤ d → 0 < span n (down d) → span n (down i) ≤ span n (down d)
first_places n i d l h = some_places n d (down i) h (down_distinct i) (λ e m. let t = below_down i e m in omega arith)
