-- What reading by the rule of styles says of an accepted look: it is refused exactly where its bytes break the rule, by 7, 18 or 29 and at one of
-- its bytes; otherwise its tree keeps the rule.
use Rattle.std.specs.Prelude.{◌≡◌, refl, ◌↔◌, ◌⊎◌, Bool, true, false, List, [], ◌∷◌, ℕ, suc, ◌<◌, length, eqb}
use Rattle.std.proofs.Common.{sym, ap, ◌∙◌, subst, inl, inr, append-nil, zero-add, arith, length-append}
use Rattle.std.proofs.Math.Option.{none, some}
use Rattle.std.specs.Prelude.{Ok, Err}
use Rattle.sizes.specs.Basics.{among, pick}
use Rattle.grammar.specs.Layout.{Order, Test, Content, Layout, number, string, Tree, spell, Bytes, Derivation}
use Rattle.grammar.specs.Fails.{Spells}
use Rattle.grammar.specs.Rule.{Kept, Breaks}
use Rattle.grammar.specs.Laws.Layout as laws
use Rattle.grammar.proofs.Laws.Layout as exactly
use Rattle.grammar.specs.Laws.Layout.Read.{Got, got, no}
use Rattle.grammar.specs.Laws.Layout.Check.{check}
use Rattle.layout.specs.Reads.{forget}
use Rattle.grammar.specs.Conventions.{int16, int32}
use Rattle.store.specs.Laws.Refusals.{same_refusal}
use Rattle.look.specs.Look.{name, Separator, TableLook}
use Rattle.look_rules.specs.StyleRule.{asks, separator_rule, last_valign, last_halign, align_rule, alignment_rule, size_rule, font_rule, name_rule, typeface_rule, AreaStyleRule, MostAreasRule, V2StylesIfRule, style_rule}
use Rattle.look_rules.proofs.Laws.Own.{Own, same, own, Owns, Given, own_reading}

-- ---- the rule's own refusals

abbrev pub numbers : List ℕ
numbers = 7 ∷ 18 ∷ 29 ∷ []

-- a test that finds the first byte wrong
start_before : (b : Bool) (q m : ℕ) → 0 < m → pick b none (some 0) ≡ some q → q < m
unfolding pick
start_before true q m l e = absurd (let z : ◌≡◌ {A = ℕ} 0 1 = cc in omega arith)
start_before false q m l e = let z : 0 ≡ q = cc in omega arith

asks_owns : (g : Layout) (n : ℕ) (test : Tree g → Bool) → among n numbers ≡ true → ((t : Tree g) → 0 < length (spell g t)) → Owns numbers (asks g n test)
asks_owns g n test m l = (m, tt, λ t q e. start_before (test t) q _ (l t) e)

number_long : (o : Order) (w : ℕ) (test : Test) (k : ℕ → Layout) (t : Tree (number o (suc w) test k)) → 0 < length (spell (number o (suc w) test k) t)
unfolding spell
number_long o w test k t = rw (length-append, laws.digits_length o (suc w) t.0) (omega arith)

string_long : (o : Order) (w : ℕ) (c : Content) (t : List ℕ) → 0 < length (spell (string o (suc w) c) t)
unfolding spell
string_long o w c t = rw (length-append, laws.digits_length o (suc w) (length t)) (omega arith)

-- one after the other
infixl 20 ◌&◌
◌&◌ : {A B T : Type 0} → A → B → A × (T → B)
a & b = (a, λ _. b)

separator_owns : Owns numbers separator_rule
unfolding separator_rule among
separator_owns = asks_owns Separator 29 _ refl (λ t. number_long _ _ _ _ t)

align_owns : (last : ℕ) → Owns numbers (align_rule last)
unfolding align_rule among
align_owns last = asks_owns int16 29 _ refl (λ t. number_long _ _ _ _ t)

size_owns : Owns numbers size_rule
unfolding size_rule among
size_owns = asks_owns int32 7 _ refl (λ t. number_long _ _ _ _ t)

name_owns : Owns numbers name_rule
unfolding name_rule among
name_owns = asks_owns name 18 _ refl (λ t. string_long _ _ _ t)

area_owns : Owns numbers AreaStyleRule
unfolding AreaStyleRule alignment_rule font_rule typeface_rule
area_owns =
    (align_owns last_valign & align_owns last_halign & tt & tt & tt & tt & tt & tt & tt & tt & tt) & (size_owns & tt & tt & tt & tt & tt & tt)
    & (tt & name_owns & tt & tt)

most_owns : Owns numbers MostAreasRule
unfolding MostAreasRule
most_owns = tt & area_owns

v2_owns : (b : Bool) → Owns numbers (V2StylesIfRule b)
v2_owns true = (λ _. separator_owns) & tt & tt & tt & tt & tt
v2_owns false = tt

style_owns : Owns numbers style_rule
unfolding style_rule
style_owns =
    tt
    & (λ version. tt
    & ((tt & (λ _. separator_owns) & tt & tt & tt & (λ _. separator_owns)) & tt & (tt & area_owns & (λ _. most_owns)) & v2_owns (eqb version 2)))

-- ---- the reading of an accepted look

-- what was read has a tree, and so has what the rule makes of it, or else the rule refuses it
data Outcome {A : Type 0} (t : A) (end : ℕ) : Got A → Type 0 where
  passed : Outcome t end (got t [] end)
  stopped : {n p : ℕ} → Given numbers end n p → Outcome t end (no n p)

module _ {bs : List ℕ} (h : Bytes bs) (d : Derivation TableLook bs) where
  own_outcome : {y : Got (Tree TableLook)} → Own (Given numbers (length bs)) (got d.tree [] (length bs)) y → Outcome {A = Tree TableLook} d.tree (length bs) y
  own_outcome same = passed
  own_outcome (own f) = stopped f

  outcome : Outcome {A = Tree TableLook} d.tree (length bs) (check style_rule bs 0)
  outcome =
      own_outcome (subst (λ (x : Got (Tree TableLook)). Own (Given numbers (length bs)) x (check style_rule bs 0)) (laws.derived TableLook bs d)
      (own_reading numbers (length bs) style_rule style_owns bs 0 record { bytes = h; long = zero-add (length bs) }))

  spells : Spells TableLook bs d.tree []
  spells = record { valid = d.valid; split = sym d.spells ∙ sym (append-nil (spell TableLook d.tree)) }

  -- the tree keeps the rule, or the bytes break it: by 7, 18 or 29, at one of them
  pub kept_or_breaks : Kept style_rule d.tree ⊎ ((n : ℕ) × (p : ℕ) × Breaks TableLook style_rule bs 0 n p)
  kept_or_breaks = go (check style_rule bs 0) refl outcome
    where
      go : (y : Got (Tree TableLook)) → check style_rule bs 0 ≡ y → Outcome {A = Tree TableLook} d.tree (length bs) y → Kept style_rule d.tree ⊎ ((n : ℕ) × (p : ℕ) × Breaks TableLook style_rule bs 0 n p)
      go (got t r q) e passed = inl ((laws.passes_exactly style_rule bs h 0 d.tree [] (length bs)).0 e).1
      go (no n p) e (stopped f) = inr (n, p, (exactly.breaks_exactly style_rule bs h 0 n p).0 e)

  -- never both
  pub not_both : {n p : ℕ} → Breaks TableLook style_rule bs 0 n p → Kept style_rule d.tree → ⊥
  not_both f k = exactly.not_kept f spells k

  pub given : {n p : ℕ} → Breaks TableLook style_rule bs 0 n p → (among n numbers ≡ true) × (p < length bs)
  given {n} {p} f = go (subst (Outcome {A = Tree TableLook} d.tree (length bs)) ((exactly.breaks_exactly style_rule bs h 0 n p).1 f) outcome)
    where
      go : Outcome {A = Tree TableLook} d.tree (length bs) (no n p) → (among n numbers ≡ true) × (p < length bs)
      go (stopped g) = g

  -- past the bytes where it keeps the rule, and only there
  pub kept_next : {p : ℕ} → forget (check style_rule bs 0) ≡ Ok p → Kept style_rule d.tree
  kept_next {p} e = go (check style_rule bs 0) refl e outcome
    where
      go : (y : Got (Tree TableLook)) → check style_rule bs 0 ≡ y → forget y ≡ Ok p → Outcome {A = Tree TableLook} d.tree (length bs) y → Kept style_rule d.tree
      go (got t r q) e i passed = ((laws.passes_exactly style_rule bs h 0 d.tree [] (length bs)).0 e).1
      go (no n q) e i (stopped f) = absurd (let z : ◌≡◌ {A = ℕ} 0 1 = cc in omega arith)

  pub kept_exactly : (forget (check style_rule bs 0) ≡ Ok (length bs)) ↔ Kept style_rule d.tree
  kept_exactly = (
    kept_next,
    λ k. ap forget ((laws.passes_exactly style_rule bs h 0 d.tree [] (length bs)).1 (spells, k, ap length (sym d.spells) ∙ sym (zero-add _))),
  )

-- whatever the bytes
pub refused_exactly : (bs : List ℕ) → Bytes bs → (n p : ℕ) → (forget (check style_rule bs 0) ≡ Err (n, p)) ↔ Breaks TableLook style_rule bs 0 n p
refused_exactly bs h n p = (λ e. (exactly.breaks_exactly style_rule bs h 0 n p).0 (go (check style_rule bs 0) e), λ f. ap forget ((exactly.breaks_exactly style_rule bs h 0 n p).1 f))
  where
    go : (y : Got (Tree TableLook)) → forget y ≡ Err (n, p) → y ≡ no n p
    go (got t r q) i = absurd (let z : ◌≡◌ {A = ℕ} 0 1 = cc in omega arith)
    go (no m q) i = let a = same_refusal i in rw (a.0, a.1)
