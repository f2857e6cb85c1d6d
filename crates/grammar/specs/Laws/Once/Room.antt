-- There are at most n different numbers below n.
use Rattle.std.specs.Prelude.{◌≡◌, refl, Bool, true, false, List, [], ◌∷◌, ℕ, zero, suc, ◌≤◌, ◌<◌, eqb, length}
use Rattle.std.proofs.Common.{arith, eqb-true}
use Rattle.std.proofs.lemmas.Bool.{eqb-false}
use Rattle.sizes.specs.Basics.{among, pick}
use Rattle.grammar.specs.Layout.{All, all_none, all_more}
use Rattle.grammar.specs.Once.{Distinct}
use Rattle.grammar.specs.Laws.Layout.Tests.{or_is_false}

-- the list without the first m
without : ℕ → List ℕ → List ℕ
without m [] = []
without m (y ∷ ys) = pick (eqb m y) ys (y ∷ without m ys)

pick_length : (b : Bool) (y : ℕ) (ys zs : List ℕ) → length ys ≤ suc (length zs) → length (y ∷ ys) ≤ suc (length (pick b ys (y ∷ zs)))
unfolding pick
pick_length true y ys zs h = omega arith
pick_length false y ys zs h = omega arith

without_length : (m : ℕ) (xs : List ℕ) → length xs ≤ suc (length (without m xs))
unfolding without
without_length m [] = omega arith
without_length m (y ∷ ys) = pick_length (eqb m y) y ys (without m ys) (without_length m ys)

pick_among : (x : ℕ) (b : Bool) (y : ℕ) (ys zs : List ℕ) → among x (y ∷ ys) ≡ false → among x zs ≡ false → among x (pick b ys (y ∷ zs)) ≡ false
unfolding pick among
pick_among x true y ys zs e f = (or_is_false (eqb x y) (among x ys) e).1
pick_among x false y ys zs e f = rw ((or_is_false (eqb x y) (among x ys) e).0, f)

without_among : (x m : ℕ) (xs : List ℕ) → among x xs ≡ false → among x (without m xs) ≡ false
unfolding without among
without_among x m [] e = e
without_among x m (y ∷ ys) e =
    pick_among x (eqb m y) y ys (without m ys) e (without_among x m ys (or_is_false (eqb x y) (among x ys) e).1)

pick_distinct : (b : Bool) (y : ℕ) (ys zs : List ℕ) → Distinct ys → Distinct (y ∷ zs) → Distinct (pick b ys (y ∷ zs))
unfolding pick
pick_distinct true y ys zs d e = d
pick_distinct false y ys zs d e = e

without_distinct : (m : ℕ) (xs : List ℕ) → Distinct xs → Distinct (without m xs)
unfolding without
without_distinct m [] d = tt
without_distinct m (y ∷ ys) d =
    pick_distinct (eqb m y) y ys (without m ys) d.1 (without_among y m ys d.0, without_distinct m ys d.1)

less : (m y : ℕ) → y < suc m → eqb m y ≡ false → y < m
less m y h e = let n = eqb-false m y e in omega arith

-- below suc m and none is m: below m
lower : (m : ℕ) (xs : List ℕ) → All (λ x. x < suc m) xs → among m xs ≡ false → All (λ x. x < m) xs
unfolding among
lower m [] b e = all_none
lower m (y ∷ ys) (all_more p b) e =
    let q = or_is_false (eqb m y) (among m ys) e in
    all_more (less m y p q.0) (lower m ys b q.1)

pick_below : (m : ℕ) (b : Bool) (y : ℕ) (ys zs : List ℕ) → eqb m y ≡ b → y < suc m → All (λ x. x < suc m) ys → among y ys ≡ false
    → All (λ x. x < m) zs → All (λ x. x < m) (pick b ys (y ∷ zs))
unfolding pick
pick_below m true y ys zs e p r f i = lower m ys r (rw (eqb-true m y e) f)
pick_below m false y ys zs e p r f i = all_more (less m y p e) i

without_below : (m : ℕ) (xs : List ℕ) → All (λ x. x < suc m) xs → Distinct xs → All (λ x. x < m) (without m xs)
unfolding without
without_below m [] b d = all_none
without_below m (y ∷ ys) (all_more p b) d =
    pick_below m (eqb m y) y ys (without m ys) refl p b d.0 (without_below m ys b d.1)

pub room : (n : ℕ) (xs : List ℕ) → All (λ x. x < n) xs → Distinct xs → length xs ≤ n
room zero [] b d = omega arith
room zero (x ∷ xs) (all_more p b) d = absurd (omega arith)
room (suc m) xs b d =
    let i = room m (without m xs) (without_below m xs b d) (without_distinct m xs d) in
    omega (arith, without_length m xs)
