-- The totals over all leaves of a dimension add up to the table's.
use Rattle.std.specs.Prelude.{◌≡◌, refl, Bool, true, false, List, ◌∷◌, ℕ, zero, suc, ◌+◌, ◌<◌}
use Rattle.std.proofs.Common.{sym, ◌∙◌, arith, eqb-true, ne_eqb}
use Rattle.std.proofs.Math.Dec.{eqb}
use Rattle.std.proofs.lemmas.Bool.{eqb-false}
use Rattle.sizes.specs.Basics.{pick}
use Rattle.grammar.specs.Layout.{All, all_none, all_more}
use Rattle.counts.specs.declared.Kind.{Kind}
use Rattle.counts.specs.declared.Kind.TheVariants.{Text, Missing, Number, Bad}
use Rattle.total.specs.declared.sums.Sums.{Sums}
use Rattle.counts.specs.Count.{kind}
use Rattle.total.specs.Total.{CellSays, add, with_cell, sums}

-- f 0 + f 1 + ... + f (n - 1)
unfoldable pub sum_to : ℕ → (ℕ → ℕ) → ℕ
sum_to zero f = 0
sum_to (suc n) f = sum_to n f + f n

-- what a cell adds to the total
abbrev gain : Kind → ℕ
gain Text = 0
gain Missing = 0
gain (Number n) = n
gain Bad = 0

add_total : (k : Kind) (place : ℕ) (s : Sums) → (add k place s).total ≡ s.total + gain k
unfolding add
add_total Text place s = omega arith
add_total Missing place s = omega arith
add_total (Number n) place s = refl
add_total Bad place s = omega arith

abbrev gain_of : CellSays → ℕ
gain_of c = gain (kind c.contents.raw.form c.contents.raw.bits)

with_total : (test : ℕ → Bool) (c : CellSays) (s : Sums) → (with_cell test c s).total ≡ s.total + pick (test c.index) (gain_of c) 0
unfolding with_cell pick
with_total test c s = go (test c.index)
  where
    go : (b : Bool) → (pick b (add (kind c.contents.raw.form c.contents.raw.bits) c.place s) s).total ≡ s.total + pick b (gain_of c) 0
    go true = add_total (kind c.contents.raw.form c.contents.raw.bits) c.place s
    go false = omega arith

-- ---- sums of sums

sum_plus : (n : ℕ) (f g : ℕ → ℕ) → sum_to n (λ j. f j + g j) ≡ sum_to n f + sum_to n g
unfolding sum_to
sum_plus zero f g = refl
sum_plus (suc n) f g = omega (arith, sum_plus n f g)

sum_none : (n : ℕ) → sum_to n (λ j. 0) ≡ 0
unfolding sum_to
sum_none zero = refl
sum_none (suc n) = omega (arith, sum_none n)

pub sum_same : (n : ℕ) (f g : ℕ → ℕ) → ((j : ℕ) → j < n → f j ≡ g j) → sum_to n f ≡ sum_to n g
unfolding sum_to
sum_same zero f g h = refl
sum_same (suc n) f g h = rw (sum_same n f g (λ j l. h j (omega arith)), h n (omega arith))

-- one place has x, and the others nothing
abbrev only : ℕ → ℕ → ℕ → ℕ
only i x j = pick (eqb i j) x 0

sum_before : (n i x : ℕ) → (n < suc i) → sum_to n (only i x) ≡ 0
unfolding sum_to pick
sum_before zero i x h = refl
sum_before (suc n) i x h = rw (ne_eqb i n (λ e. omega arith), sum_before n i x (omega arith))

-- whether it is the last
last_only : (n i x : ℕ) → i < suc n → (i < n → sum_to n (only i x) ≡ x) → (b : Bool) → eqb i n ≡ b → sum_to n (only i x) + only i x n ≡ x
unfolding pick
last_only n i x h f true e = let same : i ≡ n = eqb-true i n e in rw (e, sum_before n i x (omega arith)) (omega arith)
last_only n i x h f false e = let other : i ≡ n → ⊥ = eqb-false i n e in rw (e, f (omega arith)) (omega arith)

sum_only : (n i x : ℕ) → i < n → sum_to n (only i x) ≡ x
unfolding sum_to
sum_only zero i x h = absurd (omega arith)
sum_only (suc n) i x h = last_only n i x h (sum_only n i x) (eqb i n) refl

-- ---- the theorem

module _ (coordinate : ℕ → ℕ) (n : ℕ) where
  -- the total under leaf j
  abbrev leaf_total : List CellSays → ℕ → ℕ
  leaf_total cs j = (sums (λ k. eqb (coordinate k) j) cs).total

  pub leaves_add_up : {cs : List CellSays} → All (λ c. coordinate c.index < n) cs → sum_to n (leaf_total cs) ≡ (sums (λ _. true) cs).total
  unfolding sums pick
  leaves_add_up all_none = sum_none n
  leaves_add_up (all_more {x = c} {xs = cs} h hs) =
      sum_same n (leaf_total (c ∷ cs)) (λ j. leaf_total cs j + only (coordinate c.index) (gain_of c) j) (λ j _. with_total (λ k. eqb (coordinate k) j) c (sums (λ k. eqb (coordinate k) j) cs))
      ∙ sum_plus n (leaf_total cs) (only (coordinate c.index) (gain_of c))
      ∙ rw (leaves_add_up hs, sum_only n (coordinate c.index) (gain_of c) h) (sym (with_total (λ _. true) c (sums (λ _. true) cs)))
