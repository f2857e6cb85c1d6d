-- "the smallest and largest number found, as the doubles read (minus zero as 0), both 0 if there are none" (document 02, T-01): both are among the
-- numbers of the cells, and no number is below the one or above the other.
use Rattle.std.proofs.Math.Path.{◌≡◌, refl}
use Rattle.std.proofs.Common.{sym, ◌∙◌, arith}
use Rattle.std.specs.Prelude.{Bool, List, [], ◌∷◌, length, eqb, leb}
use Rattle.std.proofs.Math.Bool.{true, false, true≢false}
use Prim.Native.Nat.{ℕ, ◌+◌, ◌≤◌, ◌<◌, min, max}
use borrow.Author.Tests.{eqb-true, eqb-false, leb-true, leb-false}
use Rattle.sizes.specs.Basics.{pick}
use Rattle.grammar.specs.Layout.{Tree}
use Rattle.grammar.specs.Member.{Member}
use Rattle.counts.specs.declared.Kind.{Kind}
use Rattle.counts.specs.declared.Kind.TheVariants.{Text, Missing, Number, Bad}
use Rattle.counts.specs.Count.{kind}
use Rattle.total.specs.declared.sums.Sums.{Sums}
use Rattle.total.specs.Total.{CellSays, add, with_cell, sums, member_cells, under, leaf_sums}

-- what a cell counts as
abbrev pub kind_of : CellSays → Kind
kind_of c = kind c.contents.raw.form c.contents.raw.bits

-- the number n is found: one of the cells passes the test and has it
pub data Found (test : ℕ → Bool) (n : ℕ) : List CellSays → Type 0 where
  this_cell : {c : CellSays} {cs : List CellSays} → test c.index ≡ true → kind_of c ≡ Number n → Found test n (c ∷ cs)
  later_cell : {c : CellSays} {cs : List CellSays} → Found test n cs → Found test n (c ∷ cs)

pub record Extremes (test : ℕ → Bool) (cs : List CellSays) (s : Sums) : Type 0 where
  pub none : s.numbers ≡ 0 → (s.smallest ≡ 0) × (s.largest ≡ 0) × ((n : ℕ) → Found test n cs → ⊥)
  pub smallest : (s.numbers ≡ 0 → ⊥) → Found test s.smallest cs
  pub largest : (s.numbers ≡ 0 → ⊥) → Found test s.largest cs
  pub bounds : (n : ℕ) → Found test n cs → (s.smallest ≤ n) × (n ≤ s.largest)

module _ (test : ℕ → Bool) (c : CellSays) {cs : List CellSays} {s : Sums} (x : Extremes test cs s) where
  -- a cell without a number, or one that does not pass
  module _ (no_number : (n : ℕ) → test c.index ≡ true → kind_of c ≡ Number n → ⊥) where
    only_later : (n : ℕ) → Found test n (c ∷ cs) → Found test n cs
    only_later n (this_cell t k) = absurd (no_number n t k)
    only_later n (later_cell f) = f

    passed_over : {s' : Sums} → s'.numbers ≡ s.numbers → s'.smallest ≡ s.smallest → s'.largest ≡ s.largest → Extremes test (c ∷ cs) s'
    passed_over e f g =
        record {
          none = λ z. let o = x.none (sym e ∙ z) in (f ∙ o.0, g ∙ o.1, λ n h. o.2 n (only_later n h));
          smallest = λ z. rw f (later_cell (x.smallest (λ q. z (e ∙ q))));
          largest = λ z. rw g (later_cell (x.largest (λ q. z (e ∙ q))));
          bounds = λ n h. let o = x.bounds n (only_later n h) in rw (f, g) o;
        }

  -- a number
  module _ {n : ℕ} (t : test c.index ≡ true) (k : kind_of c ≡ Number n) where
    same_number : {m : ℕ} → kind_of c ≡ Number m → m ≡ n
    same_number h = cc

    -- the first that is found
    module _ (z : s.numbers ≡ 0) where
      only_this : (m : ℕ) → Found test m (c ∷ cs) → m ≡ n
      only_this m (this_cell u h) = same_number h
      only_this m (later_cell f) = absurd ((x.none z).2 m f)

    -- the smaller and the larger of it and another
    smaller : (b : Bool) → leb n s.smallest ≡ b → (s.numbers ≡ 0 → ⊥) → Found test (min n s.smallest) (c ∷ cs)
    smaller true e z = let m : min n s.smallest ≡ n = omega (arith, leb-true n s.smallest e) in rw m (this_cell t k)
    smaller false e z = let m : min n s.smallest ≡ s.smallest = omega (arith, leb-false n s.smallest e) in rw m (later_cell (x.smallest z))

    larger : (b : Bool) → leb n s.largest ≡ b → (s.numbers ≡ 0 → ⊥) → Found test (max n s.largest) (c ∷ cs)
    larger true e z = let m : max n s.largest ≡ s.largest = omega (arith, leb-true n s.largest e) in rw m (later_cell (x.largest z))
    larger false e z = let m : max n s.largest ≡ n = omega (arith, leb-false n s.largest e) in rw m (this_cell t k)

    between : (m : ℕ) → Found test m (c ∷ cs) → (min n s.smallest ≤ m) × (m ≤ max n s.largest)
    between m (this_cell u h) = let e = same_number h in (omega arith, omega arith)
    between m (later_cell f) = let o = x.bounds m f in (omega (arith, o.0), omega (arith, o.1))

    one_more : (b : Bool) → eqb s.numbers 0 ≡ b → {s' : Sums} → s'.numbers ≡ s.numbers + 1 → s'.smallest ≡ pick b n (min n s.smallest) → s'.largest ≡ max n s.largest
        → Extremes test (c ∷ cs) s'
    unfolding pick
    one_more true e p f g =
        let z = eqb-true s.numbers 0 e in
        let l : max n s.largest ≡ n = omega (arith, (x.none z).1) in
        record {
          none = λ q. absurd (omega arith);
          smallest = λ _. rw f (this_cell t k);
          largest = λ _. rw (g, l) (this_cell t k);
          bounds = λ m h. let i = only_this z m h in (omega (arith, f), omega (arith, g));
        }
    one_more false e p f g =
        let z = eqb-false s.numbers 0 e in
        record {
          none = λ q. absurd (omega arith);
          smallest = λ _. rw f (smaller (leb n s.smallest) refl z);
          largest = λ _. rw g (larger (leb n s.largest) refl z);
          bounds = λ m h. rw (f, g) (between m h);
        }

  by_kind : (k : Kind) → kind_of c ≡ k → test c.index ≡ true → Extremes test (c ∷ cs) (add k c.place s)
  unfolding add
  by_kind Text e t = passed_over (λ n u h. let o : ◌≡◌ {A = ℕ} 0 1 = cc in omega arith) refl refl refl
  by_kind Missing e t = passed_over (λ n u h. let o : ◌≡◌ {A = ℕ} 0 1 = cc in omega arith) refl refl refl
  by_kind Bad e t = passed_over (λ n u h. let o : ◌≡◌ {A = ℕ} 0 1 = cc in omega arith) refl refl refl
  by_kind (Number n) e t = one_more t e (eqb s.numbers 0) refl refl refl refl

  by_test : (b : Bool) → test c.index ≡ b → Extremes test (c ∷ cs) (pick b (add (kind_of c) c.place s) s)
  unfolding pick
  by_test true t = by_kind (kind_of c) refl t
  by_test false t = passed_over (λ n u h. true≢false (sym u ∙ t)) refl refl refl

some_cell : {test : ℕ → Bool} {n : ℕ} {cs : List CellSays} → Found test n cs → 0 < length cs
some_cell (this_cell t k) = omega arith
some_cell (later_cell f) = omega arith

pub extremes : (test : ℕ → Bool) (cs : List CellSays) → Extremes test cs (sums test cs)
unfolding sums with_cell
extremes test [] =
    record {
      none = λ _. (refl, refl, λ n f. omega (arith, some_cell f));
      smallest = λ z. absurd (z refl);
      largest = λ z. absurd (z refl);
      bounds = λ n f. absurd (omega (arith, some_cell f));
    }
extremes test (c ∷ cs) = by_test test c (extremes test cs) (test c.index) refl

-- of the cells under a leaf of an accepted member
pub leaf_extremes : (t : Tree Member) (dimension leaf : ℕ) → Extremes (under t dimension leaf) (member_cells t) (leaf_sums t dimension leaf)
leaf_extremes t dimension leaf = extremes (under t dimension leaf) (member_cells t)
