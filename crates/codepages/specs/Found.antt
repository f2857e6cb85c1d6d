-- What the code answers of a text and of its characters, in the specification's terms.
use Rattle.std.specs.Prelude.{◌≡◌, ℕ, ◌<◌, List, length, Option, Some, None, Result, Ok, Err}
use Rattle.refusals.specs.declared.Refusal.{Refusal}
use Rattle.refusals.specs.declared.Reason.TheVariants.{UnknownPage, NoCharacter}
use Rattle.pages.specs.declared.Page.{Page}
use Rattle.pages.specs.Numbers.{index}
use Rattle.convert.specs.Convert.{Step, unknown_page, refused, outcome, converted, valid_up_to, output}
use Rattle.ascii.specs.Runs.{Run}
use Rattle.codepages.specs.declared.Measured.{Measured}
use Rattle.codepages.specs.declared.way.Taken.{Taken}
use Rattle.codepages.specs.Laws.Passes.{Found, Counts}

-- a value v, if it is below the number that says that there is none
abbrev pub IsBelow : ℕ → ℕ → Option ℕ → Type 0
IsBelow none v None = none ≡ v
IsBelow none v (Some x) = (x ≡ v) × (x < none)

-- what is found at place i: bytes that are passed, or a character that is refused
abbrev pub FoundAt : (List ℕ → Step) → List ℕ → ℕ → Option Taken → Type 0
FoundAt f u i None = Found f u i 0 0
FoundAt f u i (Some t) = (0 < t.taken) × Found f u i t.taken t.made

-- how much is written for a text, and its first run of bytes under 128; or that a character is refused, and where
abbrev pub MeasuredAs : (List ℕ → Step) → ℕ → List ℕ → Result Measured Refusal → Type 0
MeasuredAs f room u (Ok m) = ((length u ≡ valid_up_to f 0 0 u) × Counts room m.length (length (output f 0 u))) × Run u 0 m.run
MeasuredAs f room u (Err e) = (e.reason ≡ NoCharacter) × (e.place < length u) × (e.place ≡ valid_up_to f 0 0 u)

-- what a text in a page is converted to, by what the page's number is taken for
abbrev pub KnownPage : ℕ → Result Page Refusal → Type 0
KnownPage page (Ok p) = (f : ℕ → List ℕ → Step) (room : ℕ) (u : List ℕ) → converted f page room u ≡ outcome (f (index p)) room u
KnownPage page (Err e) =
    (e.reason ≡ UnknownPage) × (e.place ≡ 0) × ((f : ℕ → List ℕ → Step) (room : ℕ) (u : List ℕ) → converted f page room u ≡ refused unknown_page 0)
