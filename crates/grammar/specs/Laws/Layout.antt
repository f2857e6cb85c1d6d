-- The laws of layouts. Each holds for every layout, so a production of 003 or 002 has them once it is stated.
use Rattle.std.specs.Prelude.{◌≡◌, refl, ◌↔◌, ◌⊎◌, Bool, true, List, [], ◌∷◌, ◌++◌, ℕ, ◌+◌, ◌^◌, ◌≤◌, ◌<◌, length, drop}
use Rattle.std.proofs.Common.{sym, ◌∙◌, subst, append-nil, zero-add}
use Rattle.sizes.specs.Basics.{among}
use Rattle.grammar.specs.Layout.{Order, Test, digits, Layout, Tree, spell, Bytes, All, Valid, Derivation, undigits}
use Rattle.grammar.specs.Fails.{Spells, Runs, Fails}
use Rattle.grammar.specs.Rule.{Rule, Kept, Breaks}
use Rattle.grammar.specs.Laws.Layout.Read.{Got, got, no, bind, lead, read}
use Rattle.grammar.specs.Laws.Layout.Check.{check}
use Rattle.grammar.specs.Laws.Layout.Bounds.{all_among, TestsGive, Numbered, PlacesInside}
use Rattle.grammar.specs.Strings.{strings, NoZero}
use Rattle.grammar.specs.Laws.Layout.Strings.{strict}
pub mod Read
pub mod Check
pub mod Digits
pub mod Tests
pub mod Binds
pub mod IfGot
pub mod IfNo
pub mod Lead
pub mod Complete
pub mod Sound
pub mod Places
pub mod FailsExactly
pub mod CheckExactly
pub mod Uses
pub mod Strings
pub mod Bounds
pub mod Part
pub mod Spelt
pub mod Least

-- Digits: a number that w bytes can hold is the number that its w bytes spell, in either order
pub number_spelt : (o : Order) (w n : ℕ) → n < 256 ^ w → undigits o (digits o w n) ≡ n
number_spelt = Digits.undigits_digits

pub digits_length : (o : Order) (w n : ℕ) → length (digits o w n) ≡ w
digits_length = Digits.length_digits

-- Complete: what a valid tree spells is read as that tree, whatever comes after it
pub complete : (g : Layout) (t : Tree g) → Valid g t → (r : List ℕ) (at : ℕ) → read g (spell g t ++ r) at ≡ got t r (at + length (spell g t))
complete = Complete.complete

-- Sound: what is read is a valid tree, and the tree spells what was read
pub sound : (g : Layout) (s : List ℕ) → Bytes s → (at : ℕ) (t : Tree g) (r : List ℕ) (p : ℕ) → read g s at ≡ got t r p
    → Valid g t × (s ≡ spell g t ++ r) × (p ≡ at + length (spell g t))
sound g s h at t r p e = let q = Sound.sound g s h at t r p e in (q.valid, q.split, q.place)

-- A derivation is what reading gives, and reading uses every byte
pub derived : (g : Layout) (bs : List ℕ) (d : Derivation g bs) → read g bs 0 ≡ got d.tree [] (length bs)
derived g bs d = simp (append-nil, zero-add, d.spells) at (complete g d.tree d.valid [] 0)

-- Unambiguous: two derivations of the same bytes are equal
pub unambiguous : (g : Layout) (bs : List ℕ) (d d' : Derivation g bs) → d.tree ≡ d'.tree
unambiguous g bs d d' =
    let e : read g bs 0 ≡ got d.tree [] (length bs) = derived g bs d in
    let e' : read g bs 0 ≡ got d'.tree [] (length bs) = derived g bs d' in
    cc

-- Accepts: a reading that uses all bytes exists exactly when a derivation does
pub accepts : (g : Layout) (bs : List ℕ) → Bytes bs → ((t : Tree g) × (p : ℕ) × (read g bs 0 ≡ got t [] p)) ↔ Derivation g bs
accepts g bs h = (
  λ a. let q = sound g bs h 0 a.0 [] a.1 a.2 in
      record { tree = a.0; valid = q.0; spells = sym (q.1 ∙ append-nil (spell g a.0)) },
  λ d. (d.tree, length bs, derived g bs d),
)

-- Shifted: a read at another start only shifts places
pub shifted : (d : ℕ) (g : Layout) (s : List ℕ) (at : ℕ) → read g s (d + at) ≡ Places.shift d (read g s at)
shifted = Places.read_shifts

-- Left: after a read the rest is the tail from its place, also where the read starts past the end
pub left : (g : Layout) (s : List ℕ) (at : ℕ) (t : Tree g) (r : List ℕ) (p : ℕ) → read g (drop at s) at ≡ got t r p → r ≡ drop p s
left g s at t r p e = Places.tail s (Places.took (subst (Places.Within (drop at s) at) e (Places.within g (drop at s) at)))

-- Kept: a refusal stays
pub kept : {A B : Type 0} (n p : ℕ) (f : A → List ℕ → ℕ → Got B) → bind (no n p) f ≡ no n p
unfolding bind
kept n p f = refl

-- Passes: a reading by a rule gives exactly the valid trees that pass its tests
pub passes_exactly : {g : Layout} (u : Rule g) (s : List ℕ) → Bytes s → (at : ℕ) (t : Tree g) (r : List ℕ) (p : ℕ)
    → (check u s at ≡ got t r p) ↔ (Spells g s t r × Kept u t × (p ≡ at + length (spell g t)))
passes_exactly = CheckExactly.passes_exactly

pub fails_among : (ks : List ℕ) → all_among (2 ∷ 3 ∷ 6 ∷ 7 ∷ []) ks ≡ true → {g : Layout} → TestsGive ks g → {s : List ℕ} {at n p : ℕ} → Fails g s at n p → among n ks ≡ true
fails_among = Bounds.fails_among

pub breaks_among : (ks : List ℕ) → all_among (2 ∷ 3 ∷ 6 ∷ 7 ∷ []) ks ≡ true → {g : Layout} → TestsGive ks g → {u : Rule g} → Numbered ks u
    → {s : List ℕ} {at n p : ℕ} → Breaks g u s at n p → among n ks ≡ true
breaks_among = Bounds.breaks_among

-- Runs: how many bytes a run takes
pub run_there : (b n : ℕ) (s : List ℕ) → Runs b n s (lead b n s) (drop (lead b n s) s)
run_there = FailsExactly.run_there

pub run_is : {b n : ℕ} {s : List ℕ} {k : ℕ} {r : List ℕ} → Runs b n s k r → lead b n s ≡ k
run_is = FailsExactly.run_is
