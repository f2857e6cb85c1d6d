-- Which numbers the rules of dimensions, axes and cells give, and that what they find wrong lies inside.
use Rattle.std.specs.Prelude.{◌≡◌, Bool, true, false}
use Rattle.std.proofs.Math.Option.{some}
use mathlib.Core.List.{List, [], ◌∷◌, ◌++◌}
use Prim.Native.Nat.{ℕ, zero, suc, ◌+◌, ◌≤◌}
use Rattle.std.proofs.Common.{arith, length-append}
use Rattle.sizes.specs.Sizes.{category_depth, name_to_index}
use Rattle.sizes.specs.Basics.{pick}
use Rattle.grammar.specs.Layout.{◌▸◌, Tree, spell, All, all_none, all_more, size}
use Rattle.grammar.specs.Rule.{Rule}
use Rattle.grammar.specs.Laws.Layout.{digits_length}
use Rattle.grammar.specs.Laws.Layout.Bounds.{PlacesInside}
use Rattle.grammar.specs.Value.{Value}
use Rattle.grammar.specs.Once.{fresh, first_bad}
use Rattle.grammar.specs.Once as once
use Rattle.grammar.specs.Table.{CategoryIn, DimProperties, Dimension, Category}
use Rattle.grammar.specs.Records.{Head, sum, dim_own, dim_categories}
use Rattle.grammar.specs.Rules.{kind_rule, category_rule, leaves_all, tree_leaves, leaves_of, dimension_rule, dimensions_rule}
use Rattle.grammar.specs.Laws.Table.Lengths.{size_category, size_dimension}

-- no leaf's place is past m
abbrev UpTo : ℕ → List once.Leaf → Type 0
UpTo m ls = All (λ l. l.1 ≤ m) ls

both_up_to : {m : ℕ} {ls ls' : List once.Leaf} → UpTo m ls → UpTo m ls' → UpTo m (ls ++ ls')
both_up_to all_none q = q
both_up_to (all_more h hs) q = all_more h (both_up_to hs q)

all_up_to : {A : Type 0} (m : ℕ) (sz : A → ℕ) (f : ℕ → A → List once.Leaf) → ((at : ℕ) (t : A) → at + sz t ≤ m → UpTo m (f at t))
    → (at : ℕ) (ts : List A) → at + sum sz ts ≤ m → UpTo m (leaves_all sz f at ts)
unfolding leaves_all sum
all_up_to m sz f h at [] l = all_none
all_up_to m sz f h at (t ∷ ts) l = both_up_to (h at t (omega arith)) (all_up_to m sz f h (at + sz t) ts (omega arith))

-- the place of a bad leaf is that of one of them
bad_up_to : (m n : ℕ) (seen : List ℕ) {ls : List once.Leaf} → UpTo m ls → (q : ℕ) → first_bad n seen ls ≡ some q → q ≤ m
unfolding first_bad pick
bad_up_to m n seen all_none q e = let z : ◌≡◌ {A = ℕ} 0 1 = cc in absurd (omega arith)
bad_up_to m n seen (all_more {x} {xs} h hs) q e = go (fresh n seen x.0) e (bad_up_to m n (x.0 ∷ seen) hs q)
  where
    go : (b : Bool) → pick b (first_bad n (x.0 ∷ seen) xs) (some x.1) ≡ some q
        → (first_bad n (x.0 ∷ seen) xs ≡ some q → q ≤ m) → q ≤ m
    go true e' rest = rest e'
    go false e' rest = let i : x.1 ≡ q = cc in omega arith

module _ (version : ℕ) where
  tree_up_to : (m d at : ℕ) (t : Tree (CategoryIn version d)) → at + size (CategoryIn version d) t ≤ m → UpTo m (tree_leaves version d at t)
  unfolding tree_leaves leaves_all size spell
  tree_up_to m zero at t l = all_none
  tree_up_to m (suc d) at (x, (zero, t)) l =
      let h : at + size (Value version) x + name_to_index ≤ m = omega (arith, simp (length-append, digits_length) at l) in all_more h all_none
  tree_up_to m (suc d) at (x, (suc k, (t, (n, ts)))) l =
      all_up_to m (size (CategoryIn version d)) (tree_leaves version d) (tree_up_to m d) (at + size (Head version) (x, (suc k, (t, (n, tt))))) ts
      (omega (arith, (size_category version) d (x, (suc k, (t, (n, ts))))))

  leaves_up_to : (t : Tree (Dimension version)) → UpTo (size (Dimension version) t) (leaves_of version t)
  unfolding leaves_of
  leaves_up_to t =
      all_up_to (size (Dimension version) t) (size (Category version)) (tree_leaves version category_depth) (tree_up_to (size (Dimension version) t) category_depth) (size ((Value version) ▸ DimProperties) (dim_own version t) + 4) (dim_categories version t)
      (omega (arith, (size_dimension version) t))

  kind_inside : (d : ℕ) (below : List (Tree (CategoryIn version d)) → Rule (CategoryIn version d)) → ((done : List (Tree (CategoryIn version d))) → PlacesInside (below done))
      → (k : ℕ) → PlacesInside (kind_rule version d below k)
  kind_inside d below h zero = tt
  kind_inside d below h (suc k) = (tt, λ _ n done. h done)

  category_inside : (d used : ℕ) → PlacesInside (category_rule version d used)
  unfolding category_rule
  category_inside zero used = tt
  category_inside (suc d) used = (tt, λ _ k. kind_inside d _ (λ done. category_inside d _) k)

  pub dimensions_inside : PlacesInside (dimensions_rule version)
  unfolding dimensions_rule dimension_rule size
  dimensions_inside = λ n done. ((tt, λ _ m before. category_inside category_depth _), λ t v q e. bad_up_to (size (Dimension version) t) _ [] (leaves_up_to t) q e)
