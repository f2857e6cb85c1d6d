-- The walk over the nodes: what it has still to find, after the leaf indexes seen so far; and records one at a time.
use mathlib.Core.Path.{◌≡◌, refl, sym, ◌∙◌}
use mathlib.Core.Bool.{Bool, true, false, ◌||◌}
use mathlib.Core.Option.{none, some}
use mathlib.Core.List.{List, [], ◌∷◌}
use Prim.Native.Nat.{ℕ, zero, suc, ◌+◌, ◌-◌, ◌*◌, ◌<◌}
use native.Mathlib.Omega.{arith}
use lib.Dec.{eqb}
use Rattle.std.specs.List.{list_any, range_with_len}
use Rattle.sizes.specs.Basics.{among, pick}
use Rattle.grammar.specs.RecordWords.{word, is_leaf, leaf, leaves, firsts}
use Rattle.grammar.specs.Once.{fresh, first_bad}

-- ---- nodes

-- the nodes from node i to before node e
module _ (ws : List ℕ) (i e : ℕ) (h : i < e) where
  one_left : e - i ≡ suc (e - (i + 1))
  one_left = omega arith

  pub at_leaf : is_leaf ws i ≡ true → leaves ws i (e - i) ≡ leaf ws i ∷ leaves ws (i + 1) (e - (i + 1))
  unfolding leaves pick
  at_leaf l = rw (one_left, l)

  pub at_group : is_leaf ws i ≡ false → leaves ws i (e - i) ≡ leaves ws (i + 1) (e - (i + 1))
  unfolding leaves pick
  at_group g = rw (one_left, g)

-- ---- records one at a time

or_swap : (a b c : Bool) → (a || (b || c)) ≡ (b || (a || c))
or_swap true true c = refl
or_swap true false c = refl
or_swap false b c = refl

one_more : (test : ℕ → Bool) (a n : ℕ) → list_any test (range_with_len a (suc n)) ≡ (test (a + n) || list_any test (range_with_len a n))
one_more test a zero = grind arith
one_more test a (suc n) = let e : a + 1 + n ≡ a + suc n = omega arith in rw (one_more test (a + 1) n, e) (or_swap (test a) _ _)

-- a search for x from the first record on finds what one from the last on does
pub among_firsts : (step : ℕ) (ws : List ℕ) (x n : ℕ) → list_any (λ i. eqb x (word ws (step * i))) (range_with_len 0 n) ≡ among x (firsts step ws n)
unfolding firsts among
among_firsts step ws x zero = refl
among_firsts step ws x (suc n) =
    let z : 0 + n ≡ n = omega arith in
    rw (one_more (λ i. eqb x (word ws (step * i))) 0 n, z, among_firsts step ws x n)

-- ---- what the code knows of the leaf indexes seen so far, and that what is left has the answer of the whole

pub record Walking (Known : List ℕ → Type 0) (ws : List ℕ) (n first k i e : ℕ) : Type 0 where
  pub seen : List ℕ
  pub known : Known seen
  pub same : first_bad n seen (leaves ws i (e - i)) ≡ first_bad n [] (leaves ws first k)

module _ {Known : List ℕ → Type 0} {ws : List ℕ} {n first k : ℕ} where
  pub at_start : Known [] → Walking Known ws n first k first (first + k)
  at_start h = let z : first + k - first ≡ k = omega arith in record { seen = []; known = h; same = rw z }

  module _ {i e : ℕ} (w : Walking Known ws n first k i e) where
    pub at_end : e ≡ i → first_bad n [] (leaves ws first k) ≡ none
    unfolding leaves first_bad
    at_end z = let none_left : e - i ≡ 0 = omega arith in sym w.same ∙ rw none_left

    module _ (h : i < e) where
      pub past_group : is_leaf ws i ≡ false → Walking Known ws n first k (i + 1) e
      past_group g = record { seen = w.seen; known = w.known; same = rw (at_group ws i e h g) at w.same }

      module _ (l : is_leaf ws i ≡ true) (x : ℕ) (q : x ≡ (leaf ws i).0) where
        by_leaf : (b : Bool) → fresh n w.seen x ≡ b
            → pick b (first_bad n (x ∷ w.seen) (leaves ws (i + 1) (e - (i + 1)))) (some (leaf ws i).1) ≡ first_bad n [] (leaves ws first k)
        unfolding first_bad
        by_leaf b f = rw (← f, q) (rw (at_leaf ws i e h l) at w.same)

        pub fresh_leaf : fresh n w.seen x ≡ true → {Known' : List ℕ → Type 0} → Known' (x ∷ w.seen) → Walking Known' ws n first k (i + 1) e
        unfolding pick
        fresh_leaf f h' = record { seen = x ∷ w.seen; known = h'; same = by_leaf true f }

        pub stale_leaf : fresh n w.seen x ≡ false → some (leaf ws i).1 ≡ first_bad n [] (leaves ws first k)
        unfolding pick
        stale_leaf f = by_leaf false f
