-- The length of a run, one byte at a time.
use mathlib.Core.Path.{◌≡◌, refl}
use mathlib.Core.List.{List}
use Prim.Native.Nat.{ℕ, zero, suc, ◌+◌, ◌-◌, ◌≤◌, ◌<◌}
use native.Mathlib.Numerals.{add-one, sub-one}
use native.Mathlib.Omega.{arith}
use lib.ListN.{length, drop, get_or, drop_of_length-le}
use lib.Seq.{drop-cons}
use borrow.Author.Tests.{eq-eqb, ne_eqb}
use Rattle.sizes.specs.Basics.{pick}
use Rattle.grammar.specs.Laws.Layout.Read.{lead}

module _ (b : ℕ) (s : List ℕ) (i : ℕ) where
  pub lead_none : lead b 0 (drop i s) ≡ 0
  unfolding lead
  lead_none = refl

  pub lead_past : (k : ℕ) → length s ≤ i → lead b k (drop i s) ≡ 0
  unfolding lead
  lead_past zero h = refl
  lead_past (suc k) h = rw (drop_of_length-le s {i = i} h)

  pub lead_other : (k : ℕ) → i < length s → (get_or s i 0 ≡ b → ⊥) → lead b k (drop i s) ≡ 0
  unfolding lead pick
  lead_other zero h n = refl
  lead_other (suc k) h n = rw (drop-cons s i 0 h, ne_eqb (get_or s i 0) b n)

  pub lead_more : (k : ℕ) → 0 < k → i < length s → get_or s i 0 ≡ b → i + lead b k (drop i s) ≡ i + 1 + lead b (k - 1) (drop (i + 1) s)
  unfolding lead pick
  lead_more zero l h e = absurd (omega arith)
  lead_more (suc k) l h e = rw (drop-cons s i 0 h, eq-eqb (get_or s i 0) b e, sub-one, add-one i) (omega arith)
