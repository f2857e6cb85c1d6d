-- The numbers of the refusals: document 01, "Refusal numbers", and document 02. (16 was withdrawn; 17, 27 and 28 are not given.)
use Rattle.std.specs.Prelude.{ℕ, Result, Ok, Err}
use Rattle.refusals.specs.declared.Refusal.{Refusal}
use Rattle.refusals.specs.declared.Reason.{Reason}
use Rattle.refusals.specs.declared.Reason.TheVariants.{TooLong, DoesNotFit, FixedDiffers, Version, NotBool, RegionNotFilled, Limit, LeafIndex, Axes, CellIndex, BytesLeft, NodeArea, CellArea, Color, OutputTooShort, ZeroByte, NoSuchLeaf, NoCount, CaseState, CaseCode, CaseEnd, UnknownPage, NoCharacter, BadList, NoMeaning, Other, NoRefusal}

abbrev pub number : Reason → ℕ
number TooLong = 1
number DoesNotFit = 2
number FixedDiffers = 3
number Version = 4
number NotBool = 5
number RegionNotFilled = 6
number Limit = 7
number LeafIndex = 8
number Axes = 9
number CellIndex = 10
number BytesLeft = 11
number NodeArea = 12
number CellArea = 13
number Color = 14
number OutputTooShort = 15
number ZeroByte = 18
number NoSuchLeaf = 19
number NoCount = 20
number CaseState = 21
number CaseCode = 22
number CaseEnd = 23
number UnknownPage = 24
number NoCharacter = 25
number BadList = 26
number NoMeaning = 29
number (Other u) = u.number
number NoRefusal = 0

-- an answer with its refusal by number and place, as definitions have it
abbrev pub by_number : {A : Type 0} → Result A Refusal → Result A (ℕ × ℕ)
by_number (Ok x) = Ok x
by_number (Err e) = Err (number e.reason, e.place)
