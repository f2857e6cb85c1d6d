-- What reading a look answers: a look of version 02, whichever version the file has (document 02, T-10).
use Rattle.std.specs.Prelude.{Bool, true, false, [], ◌∷◌, ℕ, eqb}
use Rattle.grammar.specs.Layout.{Tree}
use Rattle.grammar.specs.Laws.Layout.Read.{Got, got, no}
use Rattle.store.specs.Fields.{Fields, placed}
use Rattle.look.specs.declared.Separator.{Separator}
use Rattle.look.specs.declared.Separator.TheVariants.{NotDrawn, Drawn}
use Rattle.look.specs.declared.Frame.{Frame}
use Rattle.look.specs.declared.Continuation.TheVariants.{Default}
use Rattle.look.specs.declared.V2Styles.{V2Styles}
use Rattle.look.specs.Read.{Answer}
use Rattle.std.specs.Prelude.{Ok, Err}
use Rattle.look.specs.Look as grammar
use Rattle.look.specs.Look.{TableLook, TableLook02}
use Rattle.look.specs.Values as values

-- ---- "When V2Styles is absent" (002)

abbrev pub frame_said : Separator → Frame
frame_said x = record { left = x; right = x; top = x; bottom = x }

-- "drawn solid (style 0, width 1, color 0)" (document 02, T-10)
abbrev pub solid : Separator
solid = Drawn 0 0 1

-- "the inner frame borders default to a solid line and the others listed above to no line"; "the default is (Cont.)"; "the defaults are 36
-- for min-col-width and min-row-height, 72 for max-col-width, and 120 for max-row-height"
abbrev pub defaults : V2Styles
defaults = record {
  frames = record { title = NotDrawn; inner = frame_said solid; outer = frame_said NotDrawn; data_left = NotDrawn; data_top = NotDrawn };
  continuation = Default;
  min_col_width = 36;
  max_col_width = 72;
  min_row_height = 36;
  max_row_height = 120;
}

-- what stands in the file, or the defaults
abbrev pub v2_data : (b : Bool) → Fields (grammar.V2StylesIf b) → Fields grammar.V2Styles
v2_data true f = f
v2_data false f = values.v2_styles defaults

-- "now come back as version 02 looks with 002's defaults" (document 02, T-10): the version, and V2Styles, the last section. All else is as
-- in the file
abbrev pub look_of : Fields TableLook → Fields TableLook02
look_of f = (f.0, (2, (f.1.1.0, (f.1.1.1.0, v2_data (eqb f.1.0 2) f.1.1.1.1))))

-- ---- the answer

-- by document 01: the fields of the look; or a refusal's number and place
pub data Outcome : Type 0 where
  accepted : Fields TableLook02 → Outcome
  refused : ℕ → ℕ → Outcome

-- what an answer of the code says
abbrev pub outcome : Answer → Outcome
outcome (Ok x) = accepted (values.fields x)
outcome (Err (n, p)) = refused n p

-- what a reading says: "front to back, then 11"
unfoldable pub expected : Got (Tree TableLook) → Outcome
expected (no n p) = refused n p
expected (got t [] p) = accepted (look_of (placed TableLook t 0))
expected (got t (b ∷ bs) p) = refused 11 p
