-- A look as 32-bit words, in the order of source document 002: 262 words. A place or a length, which the code holds in 64 bits, is a word
-- of 32; of an accepted look it is that number (`Laws/Kept.antt`).
use Rattle.std.specs.Prelude.{List, [], ◌∷◌, ◌++◌, ℕ}
use Rattle.sizes.specs.Sizes.{no_place}
use Rattle.layout.specs.Words.{word32}
use Rattle.store.specs.Values.{bit, twos}
use Rattle.look.specs.declared.Separator.{Separator}
use Rattle.look.specs.declared.Separator.TheVariants.{NotDrawn, Drawn}
use Rattle.look.specs.declared.Settings.{Settings}
use Rattle.look.specs.declared.Lines.{Lines}
use Rattle.look.specs.declared.AreaColor.{AreaColor}
use Rattle.look.specs.declared.Alignment.{Alignment}
use Rattle.look.specs.declared.Font.{Font}
use Rattle.look.specs.declared.Typeface.{Typeface}
use Rattle.look.specs.declared.Area.{Area}
use Rattle.look.specs.declared.MostAreas.{MostAreas}
use Rattle.look.specs.declared.Frame.{Frame}
use Rattle.look.specs.declared.Frames.{Frames}
use Rattle.look.specs.declared.Continuation.{Continuation}
use Rattle.look.specs.declared.Continuation.TheVariants.{Default, Stored}
use Rattle.look.specs.declared.V2Styles.{V2Styles}
use Rattle.look.specs.declared.Look.{Look}

-- 3 words
abbrev pub settings : Settings → List ℕ
settings x = x.flags ∷ bit x.nested_row_labels ∷ bit x.footnote_marker_subscripts ∷ []

-- 4 words: 0 not drawn or 1 drawn, color, style, width
unfoldable pub separator : Separator → List ℕ
separator NotDrawn = 0 ∷ 0 ∷ 0 ∷ 0 ∷ []
separator (Drawn color style width) = 1 ∷ color ∷ style ∷ width ∷ []

-- 16 words
unfoldable pub four : Separator → Separator → Separator → Separator → List ℕ
four a b c d = separator a ++ separator b ++ separator c ++ separator d

abbrev pub lines : Lines → List ℕ
lines x = four x.horizontal_dimension x.vertical_dimension x.horizontal_category x.vertical_category

abbrev pub frame : Frame → List ℕ
frame x = four x.left x.right x.top x.bottom

-- 44 words: title, inner frame, outer frame, left and top of the data area
unfoldable pub frames : Frames → List ℕ
frames x = separator x.title ++ frame x.inner ++ frame x.outer ++ separator x.data_left ++ separator x.data_top

-- 3 words
abbrev pub area_color : AreaColor → List ℕ
area_color x = x.color10 ∷ x.color0 ∷ x.shading ∷ []

-- 7 words
abbrev pub alignment : Alignment → List ℕ
alignment x =
    x.valign ∷ x.halign ∷ x.decimal_offset ∷ x.left_margin ∷ x.right_margin ∷ x.top_margin ∷ x.bottom_margin ∷ []

-- 4 words
abbrev pub font : Font → List ℕ
font x = twos x.font_size ∷ x.stretch ∷ x.rotation_angle ∷ x.weight ∷ []

-- 8 words
abbrev pub typeface : Typeface → List ℕ
typeface x =
    bit x.italic ∷ bit x.underline ∷ bit x.strikethrough ∷ x.rtf_charset_number ∷ x.x ∷ word32 x.font_name.place
    ∷ word32 x.font_name.length ∷ x.text_color ∷ []

-- 22 words
unfoldable pub area : Area → List ℕ
area x = area_color x.color ++ alignment x.style.alignment ++ font x.style.font ++ typeface x.style.typeface

-- 154 words
unfoldable pub most_areas : MostAreas → List ℕ
most_areas x =
    area x.layers ++ area x.corner ++ area x.row_labels ++ area x.column_labels ++ area x.data ++ area x.caption
    ++ area x.footer

-- 2 words: place and length; the default, "(Cont.)", has 7 letters and no place (document 02, T-10)
unfoldable pub continuation : Continuation → List ℕ
continuation Default = no_place ∷ 7 ∷ []
continuation (Stored n) = word32 n.place ∷ word32 n.length ∷ []

-- 4 words: the widths and heights
abbrev pub v2_sizes : V2Styles → List ℕ
v2_sizes x = x.min_col_width ∷ x.max_col_width ∷ x.min_row_height ∷ x.max_row_height ∷ []

-- 6 words
unfoldable pub v2_numbers : V2Styles → List ℕ
v2_numbers x = continuation x.continuation ++ v2_sizes x

-- 0 version; 1 to 3 settings; 4 to 19 rows; 20 to 35 columns; 36 to 57 title; 58 to 211 the other areas; 212 to 255 the borders of version 02;
-- 256 to 261 its numbers
unfoldable pub look_words_of : Look → List ℕ
look_words_of x =
    (x.version ∷ settings x.settings) ++ lines x.rows ++ lines x.columns ++ area x.title ++ most_areas x.most_areas
    ++ frames x.v2.frames ++ v2_numbers x.v2
