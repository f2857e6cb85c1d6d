-- The fields of a look, as the code holds it, in the order of the grammar: each field of 002 stands once.
use Rattle.std.specs.Prelude.{List, [], ◌∷◌, ℕ, length}
use Rattle.grammar.specs.Layout.{big, undigits}
use Rattle.store.specs.Fields.{Text, lent, letters, Fields}
use Rattle.store.specs.Values.{bit, twos}
use Rattle.look.specs.declared.Separator.{Separator}
use Rattle.look.specs.declared.Separator.TheVariants.{NotDrawn, Drawn}
use Rattle.look.specs.declared.Settings.{Settings}
use Rattle.look.specs.declared.Lines.{Lines}
use Rattle.look.specs.declared.AreaColor.{AreaColor}
use Rattle.look.specs.declared.Alignment.{Alignment}
use Rattle.look.specs.declared.Font.{Font}
use Rattle.look.specs.declared.Typeface.{Typeface}
use Rattle.look.specs.declared.AreaStyle.{AreaStyle}
use Rattle.look.specs.declared.Area.{Area}
use Rattle.look.specs.declared.MostAreas.{MostAreas}
use Rattle.look.specs.declared.Frames.{Frames}
use Rattle.look.specs.declared.Continuation.{Continuation}
use Rattle.look.specs.declared.Continuation.TheVariants.{Default, Stored}
use Rattle.look.specs.declared.V2Styles.{V2Styles}
use Rattle.look.specs.declared.Look.{Look}
use Rattle.look.specs.Look as grammar

-- one after the other
infixl 20 ◌&◌
abbrev pub ◌&◌ : {A B : Type 0} → A → B → A × B
a & b = (a, b)

-- a number alone
abbrev pub num : ℕ → ℕ × Unit {0}
num n = (n, tt)

-- a class name: its length, and its letters as one number
abbrev pub quoted : (name : List ℕ) → Fields (grammar.quoted name)
quoted name = num (length name) & num (undigits big name)

abbrev pub section : (name : List ℕ) → Fields (grammar.section name)
section name = num 0xff & num 0xff & num 0 & num 0 & quoted name

abbrev pub settings : Settings → Fields grammar.settings
settings x =
    num x.flags & num 0 & num 0 & num (bit x.nested_row_labels) & num 0 & num (bit x.footnote_marker_subscripts) & num 0
    & num 54 & num 18

abbrev pub separator : Separator → Fields grammar.Separator
separator NotDrawn = (0, num 0)
separator (Drawn color style width) = (1, num 0 & num color & num style & num width)

abbrev pub lines : Lines → List (Fields grammar.Separator)
lines x =
    separator x.horizontal_dimension ∷ separator x.vertical_dimension ∷ separator x.horizontal_category
    ∷ separator x.vertical_category ∷ []

abbrev pub separator_style : Lines → Lines → Fields grammar.PVSeparatorStyle
separator_style rows columns = section grammar.PVSeparator_style_name & num 0 & lines rows & num 3 & num 0x80 & num 0 & lines columns

abbrev pub area_color : AreaColor → Fields grammar.AreaColor
area_color x = num 0 & num 1 & num 0 & num x.color10 & num x.color0 & num x.shading & num 0

abbrev pub cell_style : AreaColor → Fields grammar.PVCellStyle
cell_style title = section grammar.PVCell_style_name & area_color title

abbrev pub alignment : Alignment → Fields grammar.alignment
alignment x =
    num x.valign & num x.halign & num x.decimal_offset & num x.left_margin & num x.right_margin & num x.top_margin
    & num x.bottom_margin & num 0 & num 0 & num 1 & num 0

abbrev pub font : Font → Fields grammar.font
font x =
    num (twos x.font_size) & num x.stretch & (num 0 ∷ num 0 ∷ []) & num x.rotation_angle
    & (num 0 ∷ num 0 ∷ num 0 ∷ num 0 ∷ []) & num x.weight & (num 0 ∷ num 0 ∷ [])

abbrev pub typeface : Typeface → Fields grammar.typeface
typeface x =
    num (bit x.italic) & num (bit x.underline) & num (bit x.strikethrough) & num x.rtf_charset_number & num x.x
    & lent x.font_name & num x.text_color & (num 0 ∷ num 0 ∷ [])

abbrev pub area_style : AreaStyle → Fields grammar.AreaStyle
area_style x = alignment x.alignment & font x.font & typeface x.typeface

abbrev pub area : Area → Fields grammar.MostAreas
area x = num 6 & num 0x80 & area_color x.color & num 8 & num 0x80 & num 0 & area_style x.style

-- "layers, corner, row labels, column labels, data, caption, and footer"
abbrev pub most_areas : MostAreas → List (Fields grammar.MostAreas)
most_areas x =
    area x.layers ∷ area x.corner ∷ area x.row_labels ∷ area x.column_labels ∷ area x.data ∷ area x.caption
    ∷ area x.footer ∷ []

abbrev pub text_style : AreaStyle → MostAreas → Fields grammar.PVTextStyle
text_style title most = section grammar.PVText_style_name & num 0 & area_style title & most_areas most

-- "Title", "Left, right, top, and bottom inner frame", the same of the outer frame, "Left and top of data area"
abbrev pub frames : Frames → List (Fields grammar.Separator)
frames x =
    separator x.title ∷ separator x.inner.left ∷ separator x.inner.right ∷ separator x.inner.top
    ∷ separator x.inner.bottom ∷ separator x.outer.left ∷ separator x.outer.right ∷ separator x.outer.top
    ∷ separator x.outer.bottom ∷ separator x.data_left ∷ separator x.data_top ∷ []

-- "(Cont.)"
unfoldable pub default_continuation : List ℕ
default_continuation = 0x28 ∷ 0x43 ∷ 0x6f ∷ 0x6e ∷ 0x74 ∷ 0x2e ∷ 0x29 ∷ []

-- the default has letters and no place: it "equals a stored "(Cont.)"" (document 02, T-10), since names are compared by their bytes
abbrev pub continuation : Continuation → Text
continuation Default = letters default_continuation
continuation (Stored n) = lent n

abbrev pub v2_styles : V2Styles → Fields grammar.V2Styles
v2_styles x =
    frames x.frames & continuation x.continuation & num x.min_col_width & num x.max_col_width & num x.min_row_height
    & num x.max_row_height

abbrev pub sections : Look → Fields (grammar.sections grammar.V2Styles)
sections x =
    separator_style x.rows x.columns & cell_style x.title.color & text_style x.title.style x.most_areas
    & v2_styles x.v2

-- the fields of a look: those of a file of version 02
abbrev pub fields : Look → Fields grammar.TableLook02
fields x = section grammar.PTTable_look_name & (x.version, settings x.settings & sections x)
