-- Which numbers the rules of dimensions, axes and cells give, and that what they find wrong lies inside.
use Rattle.std.specs.Prelude.{◌≡◌, refl, Bool, true, false}
use Rattle.std.proofs.Math.Option.{none, some}
use mathlib.Core.List.{List, [], ◌∷◌}
use Prim.Native.Nat.{ℕ, zero, suc, ◌≤◌}
use Rattle.std.proofs.Common.{arith}
use Rattle.sizes.specs.Sizes.{category_depth}
use Rattle.sizes.specs.Basics.{among, pick}
use Rattle.grammar.specs.Layout.{Tree}
use Rattle.grammar.specs.Conventions.{int32}
use Rattle.grammar.specs.Rule.{Rule}
use Rattle.grammar.specs.Laws.Layout.Bounds.{Numbered, PlacesInside}
use Rattle.grammar.specs.Table.{CategoryIn, Dimension}
use Rattle.grammar.specs.Rules.{kind_rule, category_rule, dimension_rule, dimensions_rule, entry_rule, axes_rule, cell_rule, cells_rule}

-- ---- numbers

-- 2 to 10 and 18: the grammar's without a look's 14, and those of the tests below
abbrev pub numbers : List ℕ
numbers = 2 ∷ 3 ∷ 4 ∷ 5 ∷ 6 ∷ 7 ∷ 8 ∷ 9 ∷ 10 ∷ 18 ∷ []

-- ---- places

-- a test that finds its own start wrong
start_up_to : (b : Bool) (q m : ℕ) → pick b none (some 0) ≡ some q → q ≤ m
unfolding pick
start_up_to true q m e = let z : ◌≡◌ {A = ℕ} 0 1 = cc in absurd (omega arith)
start_up_to false q m e = let z : 0 ≡ q = cc in omega arith

entry_inside : (d : ℕ) (before : List (Tree int32)) → PlacesInside (entry_rule d before)
unfolding entry_rule
entry_inside d before = (tt, λ t v q e. start_up_to _ q _ e)

module _ (version : ℕ) where
  kind_numbered : (d : ℕ) (below : List (Tree (CategoryIn version d)) → Rule (CategoryIn version d)) → ((done : List (Tree (CategoryIn version d))) → Numbered numbers (below done))
      → (k : ℕ) → Numbered numbers (kind_rule version d below k)
  kind_numbered d below h zero = tt
  kind_numbered d below h (suc k) = (tt, λ _ n done. h done)

  category_numbered : (d used : ℕ) → Numbered numbers (category_rule version d used)
  unfolding category_rule among
  category_numbered zero used = tt
  category_numbered (suc d) used = (refl, (tt, λ _ k. kind_numbered d _ (λ done. category_numbered d _) k))

  pub dimensions_numbered : Numbered numbers (dimensions_rule version)
  unfolding dimensions_rule dimension_rule among
  dimensions_numbered = λ n done. (refl, (tt, λ _ m before. category_numbered category_depth _))

  pub axes_numbered : (ts : List (Tree (Dimension version))) → Numbered numbers (axes_rule version ts)
  unfolding axes_rule entry_rule among
  axes_numbered ts = (refl, λ l r c. (refl, (((λ _. (refl, tt)), λ _ _. (refl, tt)), λ _ _. (refl, tt))))

  pub cells_numbered : (places : ℕ) → Numbered numbers (cells_rule version places)
  unfolding cells_rule cell_rule among
  cells_numbered places = λ n done. ((refl, tt), λ _. tt)

  pub axes_inside : (ts : List (Tree (Dimension version))) → PlacesInside (axes_rule version ts)
  unfolding axes_rule
  axes_inside ts = λ l r c. (((λ _. entry_inside _ _), λ _ _. entry_inside _ _), λ _ _. entry_inside _ _)

  pub cells_inside : (places : ℕ) → PlacesInside (cells_rule version places)
  unfolding cells_rule cell_rule
  cells_inside places = λ n done. ((tt, λ t v q e. start_up_to _ q _ e), λ _. tt)
