-- The fields of the Areas and Borders sections of a version 3 member, for styles (003, Areas and Borders; 02, T-12).
use Rattle.std.specs.Prelude.{List, [], ◌∷◌, ◌++◌, ℕ, ◌+◌, ◌/◌, ◌%◌, ltb}
use Rattle.sizes.specs.Basics.{pick}
use Rattle.grammar.specs.Layout.{Layout, ◌▸◌}
use Rattle.grammar.specs.Sections as grammar
use Rattle.grammar.specs.Sections.{AreaFont, AreaColors, AreaMargins, EightAreas, Areas, BordersContent, Borders}
use Rattle.store.specs.Fields.{lent, letters, Fields}
use Rattle.store.specs.Values.{bit}
use Rattle.look.specs.Values.{◌&◌, num}
use Rattle.styles.specs.declared.Area.{Area}
use Rattle.styles.specs.declared.Areas as styles-areas
use Rattle.styles.specs.declared.Border.{Border}
use Rattle.styles.specs.declared.Frame.{Frame}
use Rattle.styles.specs.declared.Pair.{Pair}
use Rattle.styles.specs.declared.Borders as styles-borders
use Rattle.styles.specs.declared.Styles.{Styles}
use Rattle.styles.specs.Styles.{red, green, blue}

-- the sections
abbrev pub Sections : Layout
Sections = Areas 3 ▸ Borders

-- how many bytes they have at most, with names of at most 255 bytes
abbrev pub longest_sections : ℕ
longest_sections = 2844

-- ---- colors

-- "hex digits small" (02, T-12)
unfoldable pub digit : ℕ → ℕ
unfolding pick
digit n = pick (ltb n 10) (0x30 + n) (0x57 + n)

abbrev pub low : ℕ → ℕ
low n = n % 16

-- of a part of a color, which is below 256
abbrev pub two_digits : ℕ → List ℕ
two_digits part = digit (low (part / 16)) ∷ digit (low part) ∷ []

abbrev pub no_letters : List ℕ
no_letters = []

-- #rrggbb (003, Areas: "#000000")
unfoldable pub hex : ℕ → List ℕ
hex color = 0x23 ∷ (two_digits (red color) ++ (two_digits (green color) ++ two_digits (blue color)))

-- ---- areas

unfoldable pub font : (index : ℕ) → Area → Fields (AreaFont index)
unfolding AreaFont
font index x =
    num index & num 0x31 & lent x.typeface & num x.size & num x.style & num (bit x.underline) & num x.halign & num x.valign

-- "alternate off with empty strings"
unfoldable pub colors : Area → Fields AreaColors
unfolding AreaColors hex
colors x = letters (hex x.fg_color) & letters (hex x.bg_color) & num 0 & letters [] & letters []

unfoldable pub margins : Area → Fields AreaMargins
unfolding AreaMargins
margins x = num x.left_margin & num x.right_margin & num x.top_margin & num x.bottom_margin

unfoldable pub area : (index : ℕ) → Area → Fields (grammar.Area 3 index)
unfolding grammar.Area pick font colors margins
area index x = font index x & colors x & margins x

-- "title, caption, footer, corner, column labels, row labels, data, and layers", "in number order"
unfoldable pub eight_areas : styles-areas.Areas → Fields (EightAreas 3)
unfolding EightAreas area
eight_areas x =
    area 1 x.title & area 2 x.caption & area 3 x.footer & area 4 x.corner & area 5 x.column_labels & area 6 x.row_labels
    & area 7 x.data & area 8 x.layers

-- "no 00 before the areas"
unfoldable pub areas : styles-areas.Areas → Fields (Areas 3)
unfolding Areas eight_areas
areas x = (0, eight_areas x)

-- ---- borders

abbrev pub border : ℕ → Border → Fields grammar.Border
border type x = num type & num x.stroke & num x.color

-- "Left, top, right, and bottom", from a type on
abbrev pub frame : ℕ → Frame → List (Fields grammar.Border)
frame type x = border type x.left ∷ border (type + 1) x.top ∷ border (type + 2) x.right ∷ border (type + 3) x.bottom ∷ []

-- "Horizontal and vertical"
abbrev pub pair : ℕ → Pair → List (Fields grammar.Border)
pair type x = border type x.horizontal ∷ border (type + 1) x.vertical ∷ []

-- by type, 0 to 18
abbrev pub lines : styles-borders.Borders → List (Fields grammar.Border)
lines x =
    border 0 x.title ∷ (frame 1 x.outer ++ (frame 5 x.inner ++ (border 9 x.data_left ∷ border 10 x.data_top
    ∷ (pair 11 x.dimension_rows ++ (pair 13 x.dimension_columns ++ (pair 15 x.category_rows ++ pair 17 x.category_columns))))))

-- "grid lines off"
unfoldable pub content : styles-borders.Borders → Fields BordersContent
unfolding BordersContent
content x = num 1 & (19, lines x) & num 0 & num 0 & num 0 & num 0

unfoldable pub borders : styles-borders.Borders → Fields Borders
unfolding Borders content
borders x = content x

unfoldable pub fields : Styles → Fields Sections
unfolding areas borders
fields x = areas x.areas & borders x.borders
