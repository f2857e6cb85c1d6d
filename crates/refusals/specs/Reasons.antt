-- No two reasons have the same number, so nothing is lost where an answer has a refusal by its number.
use Rattle.std.specs.Prelude.{◌≡◌, ◌⊎◌, refl, ℕ, true, false, List, [], ◌∷◌, eqb, if◌then◌else◌}
use Rattle.std.proofs.Common.{sym, ap, subst, ◌∙◌, inl, inr}
use Rattle.std.proofs.Props.{props}
use Rattle.refusals.specs.Listed.{listed}
use Rattle.refusals.specs.declared.Unlisted.{Unlisted}
use Rattle.refusals.specs.declared.Reason.{Reason}
use Rattle.refusals.specs.declared.Reason.TheVariants.{TooLong, DoesNotFit, FixedDiffers, Version, NotBool, RegionNotFilled, Limit, LeafIndex, Axes, CellIndex, BytesLeft, NodeArea, CellArea, Color, OutputTooShort, ZeroByte, NoSuchLeaf, NoCount, CaseState, CaseCode, CaseEnd, UnknownPage, NoCharacter, BadList, NoMeaning, Other, NoRefusal}
use Rattle.refusals.specs.Numbers.{number}

reasons : List Reason
reasons = TooLong ∷ DoesNotFit ∷ FixedDiffers ∷ Version ∷ NotBool ∷ RegionNotFilled ∷ Limit ∷ LeafIndex ∷ Axes ∷ CellIndex ∷ BytesLeft ∷ NodeArea ∷ CellArea ∷ Color ∷ OutputTooShort ∷ ZeroByte ∷ NoSuchLeaf ∷ NoCount ∷ CaseState ∷ CaseCode ∷ CaseEnd ∷ UnknownPage ∷ NoCharacter ∷ BadList ∷ NoMeaning ∷ NoRefusal ∷ []

-- the first of these with that number
abbrev first : ℕ → List Reason → Reason
first n [] = TooLong
first n (r ∷ rs) = if eqb (number r) n then r else first n rs

-- a reason is the one listed with its number, or has a number that isn't listed
abbrev Shown : Reason → Type 0
Shown r = ((listed (number r) ≡ true) × (first (number r) reasons ≡ r)) ⊎ ((u : Unlisted) × (r ≡ Other u))

shown : (r : Reason) → Shown r
unfolding reasons
shown TooLong = inl (refl, refl)
shown DoesNotFit = inl (refl, refl)
shown FixedDiffers = inl (refl, refl)
shown Version = inl (refl, refl)
shown NotBool = inl (refl, refl)
shown RegionNotFilled = inl (refl, refl)
shown Limit = inl (refl, refl)
shown LeafIndex = inl (refl, refl)
shown Axes = inl (refl, refl)
shown CellIndex = inl (refl, refl)
shown BytesLeft = inl (refl, refl)
shown NodeArea = inl (refl, refl)
shown CellArea = inl (refl, refl)
shown Color = inl (refl, refl)
shown OutputTooShort = inl (refl, refl)
shown ZeroByte = inl (refl, refl)
shown NoSuchLeaf = inl (refl, refl)
shown NoCount = inl (refl, refl)
shown CaseState = inl (refl, refl)
shown CaseCode = inl (refl, refl)
shown CaseEnd = inl (refl, refl)
shown UnknownPage = inl (refl, refl)
shown NoCharacter = inl (refl, refl)
shown BadList = inl (refl, refl)
shown NoMeaning = inl (refl, refl)
shown (Other u) = inr (u, refl)
shown NoRefusal = inl (refl, refl)

apart : (n m : ℕ) → n ≡ m → listed n ≡ true → listed m ≡ false → ⊥
apart n m e t f = cc

one_proof : (n : ℕ) → IsProp (listed n ≡ false)
one_proof n = hlevel props

with : (n : ℕ) → listed n ≡ false → Unlisted
with n o = record { number = n; other = o }

same : (u v : Unlisted) → u.number ≡ v.number → u ≡ v
unfolding with
same u v e = subst (λ m. (o : listed m ≡ false) → u ≡ with m o) e (λ o. ap (with u.number) (one_proof u.number u.other o)) v.other

by_shown : (a b : Reason) → number a ≡ number b → Shown a → Shown b → a ≡ b
by_shown a b e (inl p) (inl q) = sym p.1 ∙ ap (λ n. first n reasons) e ∙ q.1
by_shown a b e (inl p) (inr q) = absurd (apart _ _ (e ∙ ap number q.1) p.0 q.0.other)
by_shown a b e (inr p) (inl q) = absurd (apart _ _ (sym e ∙ ap number p.1) q.0 p.0.other)
by_shown a b e (inr p) (inr q) = p.1 ∙ ap Other (same p.0 q.0 (sym (ap number p.1) ∙ e ∙ ap number q.1)) ∙ sym q.1

-- two reasons with one number are the same
pub one_to_one : (a b : Reason) → number a ≡ number b → a ≡ b
one_to_one a b e = by_shown a b e (shown a) (shown b)
