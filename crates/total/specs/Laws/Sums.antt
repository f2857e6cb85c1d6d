-- How large sums are, and what the leaves of a dimension add up to.
use Rattle.std.specs.Prelude.{◌≡◌, refl, Bool, true, false, List, [], ◌∷◌, ℕ, suc, ◌+◌, ◌-◌, ◌*◌, ◌^◌, ◌≤◌, ◌<◌, length, eqb, ltb}
use Rattle.std.proofs.Common.{mul-le-mul_right, arith, ltb-true}
use Rattle.sizes.specs.Basics.{pick, among}
use Rattle.counts.specs.declared.Kind.{Kind}
use Rattle.counts.specs.declared.Kind.TheVariants.{Text, Missing, Number, Bad}
use Rattle.total.specs.declared.sums.Sums.{Sums}
use Rattle.counts.specs.Count.{missing_bits, no_count, count}
use Rattle.counts.specs.Count.{kind}
use Rattle.total.specs.Total.{CellSays, add, with_cell, sums}

-- ---- how large

-- a number is a count
data Small : Kind → Type 0 where
  small_text : Small Text
  small_missing : Small Missing
  small_number : {n : ℕ} → n < 2 ^ 32 → Small (Number n)
  small_bad : Small Bad

pick_small : {x y : Kind} (b : Bool) → (b ≡ true → Small x) → Small y → Small (pick b x y)
unfolding pick
pick_small true h k = h refl
pick_small false h k = k

kind_small : (form bits : ℕ) → Small (kind form bits)
unfolding kind
kind_small form bits =
    pick_small (among form (1 ∷ 2 ∷ []))
    (λ _. pick_small (eqb bits missing_bits) (λ _. small_missing) (pick_small (ltb (count bits) no_count) (λ e. small_number (ltb-true (count bits) no_count e)) small_bad))
    small_text

-- so many cells
pub record Within (k : ℕ) (s : Sums) : Type 0 where
  pub total : s.total ≤ k * (2 ^ 32 - 1)
  pub numbers : s.numbers ≤ k
  pub texts : s.texts ≤ k
  pub missing : s.missing ≤ k

add_within : {k : ℕ} (x : Kind) (place : ℕ) {s : Sums} → Small x → Within k s → Within (suc k) (add x place s)
unfolding add
add_within {k} Text place h w = record { total = omega (arith, w.total); numbers = omega (arith, w.numbers); texts = omega (arith, w.texts); missing = omega (arith, w.missing) }
add_within {k} Missing place h w = record { total = omega (arith, w.total); numbers = omega (arith, w.numbers); texts = omega (arith, w.texts); missing = omega (arith, w.missing) }
add_within {k} (Number n) place (small_number h) w = record { total = omega (arith, w.total, h); numbers = omega (arith, w.numbers); texts = omega (arith, w.texts); missing = omega (arith, w.missing) }
add_within {k} Bad place h w = record { total = omega (arith, w.total); numbers = omega (arith, w.numbers); texts = omega (arith, w.texts); missing = omega (arith, w.missing) }

more_within : {k : ℕ} {s : Sums} → Within k s → Within (suc k) s
more_within w = record { total = omega (arith, w.total); numbers = omega (arith, w.numbers); texts = omega (arith, w.texts); missing = omega (arith, w.missing) }

pub sums_within : (test : ℕ → Bool) (cs : List CellSays) → Within (length cs) (sums test cs)
unfolding sums with_cell pick
sums_within test [] = record { total = omega arith; numbers = omega arith; texts = omega arith; missing = omega arith }
sums_within test (c ∷ cs) = one_more (test c.index) (sums_within test cs)
  where
    k : Kind
    k = kind c.contents.raw.form c.contents.raw.bits

    one_more : (b : Bool) {s : Sums} → Within (length cs) s → Within (suc (length cs)) (pick b (add k c.place s) s)
    one_more true w = add_within k c.place (kind_small c.contents.raw.form c.contents.raw.bits) w
    one_more false w = more_within w

-- there is room for one more
pub room : {s : Sums} → Within (2 ^ 31) s → (s.total ≤ 2 ^ 63) × (s.numbers + 1 < 2 ^ 32) × (s.texts + 1 < 2 ^ 32) × (s.missing + 1 < 2 ^ 32)
room w = (omega (arith, w.total), omega (arith, w.numbers), omega (arith, w.texts), omega (arith, w.missing))

pub within_more : {k m : ℕ} {s : Sums} → k ≤ m → Within k s → Within m s
within_more {k} {m} h w = record {
  total = let l : k * (2 ^ 32 - 1) ≤ m * (2 ^ 32 - 1) = mul-le-mul_right (2 ^ 32 - 1) h in omega (arith, l, w.total);
  numbers = omega (arith, w.numbers);
  texts = omega (arith, w.texts);
  missing = omega (arith, w.missing);
}
