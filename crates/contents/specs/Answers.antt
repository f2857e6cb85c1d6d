-- What is answered for any bytes: what the Value, or the Argument, in front of them says; or the refusal that they get.
use Rattle.std.specs.Prelude.{◌≡◌, false, List, ℕ, Result, Ok, Err, length, leb}
use Rattle.refusals.specs.declared.Refusal.{Refusal}
use Rattle.refusals.specs.Numbers.{number}
use Rattle.refusals.specs.Verdicts.{Refuses}
use Rattle.sizes.specs.Sizes.{member_bytes, below_value}
use Rattle.sizes.specs.Basics.{among, pick}
use Rattle.grammar.specs.Layout.{a_version, Layout, Tree}
use Rattle.grammar.specs.Numbers.{refusal}
use Rattle.grammar.specs.Fails.{Spells, Fails}
use Rattle.grammar.specs.Sections.{versions}
use Rattle.grammar.specs.Value.{CellValue, Argument}
use Rattle.contents.specs.declared.Contents as value_said
use Rattle.contents.specs.declared.Argument as argument_said
use Rattle.contents.specs.Said.{Contents}
use Rattle.contents.specs.Said.{Argument as ArgumentContents}
unfoldable pub use Rattle.contents.specs.Contents.{none, raw, contents, argument_of, argument_contents}

-- the refusal of bytes that are not read, 0 for none: 1 for more than a member has, 4 for a version that is neither 1 nor 3, both at 0 (our rule)
unfoldable pub unread : ℕ → List ℕ → ℕ
unread version s = pick (leb (length s) member_bytes) (pick (among version versions) 0 (refusal (a_version versions) version)) 1

-- x is the answer for the bytes s: g is read in front of them, and `says` is what a derivation says
pub record Answers {A : Type 0} (version : ℕ) (g : Layout) (says : Tree g → A) (refused : ℕ → ℕ → A) (s : List ℕ) (x : A) : Type 0 where
  -- they are not read
  pub not_read : (n : ℕ) → unread version s ≡ n → (n ≡ 0 → ⊥) → x ≡ refused n 0
  -- or a derivation of g stands in front of them
  pub derived : unread version s ≡ 0 → (t : Tree g) (r : List ℕ) → Spells g s t r → x ≡ says t
  -- or they fail, which `layout`'s laws say is the case exactly where none does
  pub fails : unread version s ≡ 0 → (n p : ℕ) → Fails g s 0 n p → x ≡ refused n p

-- "All refusals return the number, the place and no records; .. everything else returned is 0" (document 01)
abbrev pub refused : ℕ → ℕ → Contents
refused n p = record { refusal = n; place = p; length = 0; zeros = 0; raw = raw 0 0 0 0 false none none none none none 0 0 }

abbrev pub refused_argument_answer : ℕ → ℕ → ArgumentContents
refused_argument_answer n p = record { refusal = n; place = p; length = 0; values = 0; first = 0 }

-- a Value with all the bytes 00 that a cell may have before it: names of nodes and dimensions are read so too (`Members`)
abbrev pub ValueAnswers : ℕ → List ℕ → Contents → Type 0
ValueAnswers version s x = Answers version (CellValue version) (contents version) refused s x

-- an Argument of the outermost Value; those inside are read so too (`Nested`)
abbrev pub ArgumentAnswers : ℕ → List ℕ → ArgumentContents → Type 0
ArgumentAnswers version s x = Answers version (Argument version below_value) (argument_contents version) refused_argument_answer s x

-- ---- the same of what code has

-- whether the bytes are read: if not, they are refused at 0
abbrev pub Readable : ℕ → List ℕ → Result Unit Refusal → Type 0
Readable version s (Ok x) = unread version s ≡ 0
Readable version s (Err e) = (unread version s ≡ number e.reason) × (e.place ≡ 0) × Refuses e.reason

abbrev pub contents_of : Result value_said.Contents Refusal → Contents
contents_of (Ok x) = record { refusal = 0; place = 0; length = x.length; zeros = x.zeros; raw = x.raw }
contents_of (Err e) = refused (number e.reason) e.place

abbrev pub argument_with : argument_said.Argument → ArgumentContents
argument_with x = record { refusal = 0; place = 0; length = x.length; values = x.values; first = x.first }

abbrev pub argument_answered : Result argument_said.Argument Refusal → ArgumentContents
argument_answered (Ok x) = argument_with x
argument_answered (Err e) = refused_argument_answer (number e.reason) e.place
