-- The laws of layouts. Each holds for every layout, so a production of 003 or 002 has them once it is stated.
use Rattle.std.specs.Prelude.{◌≡◌, refl, ◌↔◌, ◌⊎◌, Bool, true, List, [], ◌∷◌, ◌++◌, ℕ, ◌+◌, ◌^◌, ◌≤◌, ◌<◌, length, drop}
use Rattle.std.proofs.Common.{sym, ◌∙◌, subst, append-nil, zero-add}
use Rattle.sizes.specs.Basics.{among}
use Rattle.grammar.specs.Layout.{Order, Test, digits, Layout, Tree, spell, Bytes, All, Valid, Derivation, undigits}
use Rattle.grammar.specs.Fails.{Spells, Runs, Fails}
use Rattle.grammar.specs.Rule.{Rule, Kept, Breaks}
use Rattle.grammar.specs.Laws.Layout.Read.{Got, got, no, bind, lead, read}
use Rattle.grammar.specs.Laws.Layout.Check.{check}
use Rattle.grammar.specs.Laws.Layout.Bounds.{all_among, TestsGive, Numbered, PlacesInside}
use Rattle.grammar.specs.Strings.{strings, NoZero}
use Rattle.grammar.specs.Laws.Layout.Strings.{strict}
use Rattle.grammar.specs.Laws.Layout.Uses
pub mod Bounds
pub mod CheckExactly
pub mod FailsExactly
pub mod Strings

-- Fails: a reading is refused exactly where the bytes fail, with that number and at that place
pub fails_exactly : (g : Layout) (s : List ℕ) → Bytes s → (at n p : ℕ) → (read g s at ≡ no n p) ↔ Fails g s at n p
fails_exactly = FailsExactly.fails_exactly

-- Decided: bytes either have a derivation in front or fail, and never both
pub front_or_fails : (g : Layout) (s : List ℕ) → Bytes s → (at : ℕ)
    → ((t : Tree g) × (r : List ℕ) × Spells g s t r) ⊎ ((n : ℕ) × (p : ℕ) × Fails g s at n p)
front_or_fails = FailsExactly.front_or_fails

pub not_both : {g : Layout} {s : List ℕ} {at n p : ℕ} {t : Tree g} {r : List ℕ} → Fails g s at n p → Spells g s t r → ⊥
not_both = FailsExactly.not_both

-- Once: they fail by one number, at one place, which is in the bytes or right after the last
pub one_refusal : {g : Layout} {s : List ℕ} {at n p n' p' : ℕ} → Fails g s at n p → Fails g s at n' p' → (n ≡ n') × (p ≡ p')
one_refusal = FailsExactly.one_refusal

pub place_inside : {g : Layout} {s : List ℕ} {at n p : ℕ} → Fails g s at n p → (at ≤ p) × (p ≤ at + length s)
place_inside = FailsExactly.place_inside

-- Moved: the same bytes from another place on
pub fails_shifted : (d : ℕ) {g : Layout} {s : List ℕ} {at n p : ℕ} → Bytes s → Fails g s at n p → Fails g s (d + at) n (d + p)
fails_shifted = FailsExactly.fails_shifted

-- Breaks: and it is refused exactly where the bytes break the rule, with that number and at that place
pub breaks_exactly : {g : Layout} (u : Rule g) (s : List ℕ) → Bytes s → (at n p : ℕ) → (check u s at ≡ no n p) ↔ Breaks g u s at n p
breaks_exactly = CheckExactly.breaks_exactly

pub not_kept : {g : Layout} {u : Rule g} {s : List ℕ} {at n p : ℕ} {t : Tree g} {r : List ℕ} → Breaks g u s at n p → Spells g s t r → Kept u t → ⊥
not_kept = CheckExactly.not_kept

pub one_break : {g : Layout} {u : Rule g} {s : List ℕ} {at n p n' p' : ℕ} → Breaks g u s at n p → Breaks g u s at n' p' → (n ≡ n') × (p ≡ p')
one_break = CheckExactly.one_break

-- Given: which numbers a layout gives, and a layout whose broken tests give only some; the same of a rule, which gives its own besides
pub fails_numbers : {g : Layout} {s : List ℕ} {at n p : ℕ} → Fails g s at n p → among n (2 ∷ 3 ∷ 4 ∷ 5 ∷ 6 ∷ 7 ∷ 14 ∷ 18 ∷ []) ≡ true
fails_numbers = Bounds.fails_numbers

pub breaks_numbers : (ks : List ℕ) → all_among (2 ∷ 3 ∷ 4 ∷ 5 ∷ 6 ∷ 7 ∷ 14 ∷ 18 ∷ []) ks ≡ true → {g : Layout} {u : Rule g} → Numbered ks u
    → {s : List ℕ} {at n p : ℕ} → Breaks g u s at n p → among n ks ≡ true
breaks_numbers = Bounds.breaks_numbers

-- Passed on: no string of a derivation has a zero byte, where the layout asks that of each of its strings
pub strings_free : {P : Test → Bool} {g : Layout} → Uses.Uses P strict g → (t : Tree g) → Valid g t → All NoZero (strings g t)
strings_free = Strings.strings_free

-- Inside: where a rule's own tests find nothing wrong outside the tree, a refusal's place is not past the bytes
pub break_inside : {g : Layout} {u : Rule g} → PlacesInside u → {s : List ℕ} {at n p : ℕ} → Breaks g u s at n p → p ≤ at + length s
break_inside = Bounds.break_inside
