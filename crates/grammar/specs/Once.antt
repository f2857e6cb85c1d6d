-- What document 01 asks of leaf indexes, axis entries and cell indexes: numbers that stand once each.
use Rattle.std.specs.Prelude.{◌≡◌, Bool, true, false, not, ◌&&◌, List, [], ◌∷◌, map, ℕ, ◌<◌, ltb}
use Rattle.std.proofs.Math.Option.{Option, none, some}
use Rattle.sizes.specs.Basics.{among, pick}
use Rattle.grammar.specs.Layout.{All}

-- ---- numbers that stand once each

-- x is below n and was not seen before (document 01, refusals 8, 9 and 10)
unfoldable pub fresh : ℕ → List ℕ → ℕ → Bool
fresh n seen x = ltb x n && not (among x seen)

-- no number stands twice
abbrev pub Distinct : List ℕ → Type 0
Distinct [] = Unit {0}
Distinct (x ∷ xs) = (among x xs ≡ false) × Distinct xs

-- numbers below n, each at most once (document 01: "Leaf indexes are 0 to n-1, once each", "each dimension number once", "It is
-- below the product and stands once"). Where there are n of them, each number below n is one of them: `Laws.Once.each_there`.
pub record OnceEach (n : ℕ) (xs : List ℕ) : Type 0 where
  pub below : All (λ x. x < n) xs
  pub distinct : Distinct xs

-- each is fresh when its turn comes, after those seen before it
abbrev pub AllFresh : ℕ → List ℕ → List ℕ → Type 0
AllFresh n seen [] = Unit {0}
AllFresh n seen (x ∷ xs) = (fresh n seen x ≡ true) × AllFresh n (x ∷ seen) xs

-- ---- leaves

-- a leaf: its index, and the place of that index in the member
abbrev pub Leaf : Type 0
Leaf = ℕ × ℕ

abbrev pub indexes : List Leaf → List ℕ
indexes ls = map (λ l. l.0) ls

-- the place of the first leaf whose index is not below n or was seen before, if there is one (document 01, refusal 8)
unfoldable pub first_bad : ℕ → List ℕ → List Leaf → Option ℕ
first_bad n seen [] = none
first_bad n seen (l ∷ ls) = pick (fresh n seen l.0) (first_bad n (l.0 ∷ seen) ls) (some l.1)
