-- What a test answers: that it is passed, or why not; as a number, 0 where it is passed.
use Rattle.std.specs.Prelude.{◌≡◌, refl, ℕ, false, eqb, Result, Ok, Err}
use Rattle.std.proofs.Common.{arith}
use Rattle.refusals.specs.Listed.{listed}
use Rattle.refusals.specs.declared.Reason.{Reason}
use Rattle.refusals.specs.declared.Reason.TheVariants.{TooLong, DoesNotFit, FixedDiffers, Version, NotBool, RegionNotFilled, Limit, LeafIndex, Axes, CellIndex, BytesLeft, NodeArea, CellArea, Color, OutputTooShort, ZeroByte, NoSuchLeaf, NoCount, CaseState, CaseCode, CaseEnd, UnknownPage, NoCharacter, BadList, NoMeaning, Other, NoRefusal}
use Rattle.refusals.specs.Numbers.{number}

abbrev pub code : Result Unit Reason → ℕ
code (Ok x) = 0
code (Err r) = number r

-- that it has another number than 0
abbrev pub Refuses : Reason → Type 0
Refuses r = eqb (number r) 0 ≡ false

not_0 : (n : ℕ) → listed n ≡ false → eqb n 0 ≡ false
not_0 n e = grind arith

-- no reason has the number 0 but `NoRefusal`
pub number_not_0 : (r : Reason) → (r ≡ NoRefusal → ⊥) → Refuses r
number_not_0 TooLong h = refl
number_not_0 DoesNotFit h = refl
number_not_0 FixedDiffers h = refl
number_not_0 Version h = refl
number_not_0 NotBool h = refl
number_not_0 RegionNotFilled h = refl
number_not_0 Limit h = refl
number_not_0 LeafIndex h = refl
number_not_0 Axes h = refl
number_not_0 CellIndex h = refl
number_not_0 BytesLeft h = refl
number_not_0 NodeArea h = refl
number_not_0 CellArea h = refl
number_not_0 Color h = refl
number_not_0 OutputTooShort h = refl
number_not_0 ZeroByte h = refl
number_not_0 NoSuchLeaf h = refl
number_not_0 NoCount h = refl
number_not_0 CaseState h = refl
number_not_0 CaseCode h = refl
number_not_0 CaseEnd h = refl
number_not_0 UnknownPage h = refl
number_not_0 NoCharacter h = refl
number_not_0 BadList h = refl
number_not_0 NoMeaning h = refl
number_not_0 (Other u) h = not_0 u.number u.other
number_not_0 NoRefusal h = absurd (h refl)
