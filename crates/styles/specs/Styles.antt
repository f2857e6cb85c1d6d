-- The styles of a look: document 02, T-12, over 002's fields and in 003's numbers. Areas and borders are matched by name.
use Rattle.std.specs.Prelude.{ℕ, ◌+◌, ◌-◌, ◌*◌, ◌/◌, ◌%◌, ◌^◌, min, Bool, List, [], ◌∷◌, pos, ◌==◌, nat_le, to_bits}
use Rattle.std.specs.Float.{binary32}
use Rattle.std.specs.Float.Ieee.{of_int}
use Rattle.sizes.specs.Basics.{pick}
use Rattle.store.specs.Values.{bit, twos}
use Rattle.units.specs.Units.{in_pixels}
use Rattle.look.specs.declared.AreaColor.{AreaColor}
use Rattle.look.specs.declared.AreaStyle.{AreaStyle}
use Rattle.look.specs.declared.Area as from-area
use Rattle.look.specs.declared.MostAreas.{MostAreas}
use Rattle.look.specs.declared.Separator.{Separator}
use Rattle.look.specs.declared.Separator.TheVariants.{NotDrawn, Drawn}
use Rattle.look.specs.declared.Frame as from-frame
use Rattle.look.specs.declared.Frames.{Frames}
use Rattle.look.specs.declared.Lines.{Lines}
use Rattle.look.specs.declared.Look.{Look}
use Rattle.styles.specs.declared.Area.{Area}
use Rattle.styles.specs.declared.Areas.{Areas}
use Rattle.styles.specs.declared.Border.{Border}
use Rattle.styles.specs.declared.Frame.{Frame}
use Rattle.styles.specs.declared.Pair.{Pair}
use Rattle.styles.specs.declared.Borders.{Borders}
use Rattle.styles.specs.declared.Styles.{Styles}

-- a number that a table lists, as another; one that it does not list is refused before it is asked for, and counts as 0
unfoldable pub listed : List (ℕ × ℕ) → ℕ → ℕ
unfolding pick
listed [] n = 0
listed (x ∷ xs) n = pick (n == x.0) x.1 (listed xs n)

-- ---- colors

-- 002: "the low 8 bits are the red component, the next 8 bits are green, and next 8 bits are blue"
abbrev pub red : ℕ → ℕ
red color = color % 256

abbrev pub green : ℕ → ℕ
green color = color / 256 % 256

abbrev pub blue : ℕ → ℕ
blue color = color / 65536 % 256

-- 02, T-12: "each color part as (shading × color10 + (10 - shading) × color0) / 10, rounded down"; 002: 0 is pure color0, 10 is pure color10
abbrev pub mixed : ℕ → ℕ → ℕ → ℕ
mixed shading part10 part0 = (shading * part10 + (10 - shading) * part0) / 10

-- the color of a background, as a color of a look. No shading above 10 is accepted
unfoldable pub background : AreaColor → ℕ
background x =
    let mix = mixed (min x.shading 10) in
    mix (red x.color10) (red x.color0) + mix (green x.color10) (green x.color0) * 256 + mix (blue x.color10) (blue x.color0) * 65536

-- 003, Borders: "Bits 24-31 are alpha, bits 16-23 are red, 8-15 are green, 0-7 are blue"; "colors opaque" (02, T-12)
unfoldable pub opaque : ℕ → ℕ
opaque color = 0xff000000 + red color * 65536 + green color * 256 + blue color

-- ---- areas

-- the height of a font whose size is these 32 bits (01, "Two's complement decides"; "-n for n below 0"). One of 0 and above is refused
-- before it is asked for, and counts as 0
abbrev pub height : ℕ → ℕ
height bits = pick (nat_le (2 ^ 31) bits) (2 ^ 32 - bits) 0

-- it, as the bits of a float (003, Areas: size "in px"; 02, T-12)
unfoldable pub size : ℕ → ℕ
size bits = to_bits binary32 (of_int binary32 (pos (height bits)))

-- 003, Areas: "Bit 0 (with value 1) is set for bold, bit 1 (with value 2) is set for italic"; "bold from weight 700" (02, T-12)
unfoldable pub style : ℕ → Bool → ℕ
style weight italic = bit (nat_le 700 weight) + bit italic * 2

-- 002: "0 for left alignment, 1 for right, 2 for center, 3 for mixed, 4 for decimal";
-- 003: "0 for center, 2 for left, 4 for right, 61453 for decimal, 64173 for mixed"
unfoldable pub halign : ℕ → ℕ
unfolding listed
halign n = listed ((0, 2) ∷ (1, 4) ∷ (2, 0) ∷ (3, 64173) ∷ (4, 61453) ∷ []) n

-- 002: "0 for top alignment, 1 for bottom alginment, 2 for center"; 003: "0 for center, 1 for top, 3 for bottom"
unfoldable pub valign : ℕ → ℕ
unfolding listed
valign n = listed ((0, 1) ∷ (1, 3) ∷ (2, 0) ∷ []) n

-- "margins from 20ths of a point ..., divided by 20, rounded down, then to pixels" (02, T-12)
unfoldable pub margin : ℕ → ℕ
margin n = (in_pixels (record { 0 = n / 20 })).value.0

abbrev pub area : AreaColor → AreaStyle → Area
area color x = record {
  typeface = x.typeface.font_name;
  size = size (twos x.font.font_size);
  style = style x.font.weight x.typeface.italic;
  underline = x.typeface.underline;
  halign = halign x.alignment.halign;
  valign = valign x.alignment.valign;
  fg_color = x.typeface.text_color;
  bg_color = background color;
  left_margin = margin x.alignment.left_margin;
  right_margin = margin x.alignment.right_margin;
  top_margin = margin x.alignment.top_margin;
  bottom_margin = margin x.alignment.bottom_margin;
}

-- 003, Areas: "title, caption, footer, corner, column labels, row labels, data, and layers"
unfoldable pub areas : from-area.Area → MostAreas → Areas
areas title x = record {
  title = area title.color title.style;
  caption = area x.caption.color x.caption.style;
  footer = area x.footer.color x.footer.style;
  corner = area x.corner.color x.corner.style;
  column_labels = area x.column_labels.color x.column_labels.style;
  row_labels = area x.row_labels.color x.row_labels.style;
  «data» = area x.data.color x.data.style;
  layers = area x.layers.color x.layers.style;
}

-- ---- borders

-- 002, Separator: "width 0 as a thin line, width 1 as a solid (normal width) line, and width 2 or 3 as a thick line";
-- 003, Borders: 0 no line, 1 solid, 2 dashed, 3 thick, 4 thin, 5 double
unfoldable pub single : ℕ → ℕ
unfolding listed
single width = listed ((0, 4) ∷ (1, 1) ∷ (2, 3) ∷ (3, 3) ∷ []) width

-- "A doubled line, composed of normal-width (0) or thick (1) lines"
unfoldable pub doubled : ℕ → ℕ
unfolding listed
doubled width = listed ((0, 5) ∷ (1, 5) ∷ []) width

-- style 0 is a single line, style 1 a doubled one, style 2 a dashed one
unfoldable pub stroke : ℕ → ℕ → ℕ
unfolding listed
stroke style width = listed ((0, single width) ∷ (1, doubled width) ∷ (2, 2) ∷ []) style

-- "Borders undrawn or without a separator are no line in opaque black" (02, T-12)
abbrev pub border : Separator → Border
border NotDrawn = record { stroke = 0; color = 0xff000000 }
border (Drawn color style width) = record { stroke = stroke style width; color = opaque color }

abbrev pub frame : from-frame.Frame → Frame
frame x = record { left = border x.left; top = border x.top; right = border x.right; bottom = border x.bottom }

abbrev pub pair : Separator → Separator → Pair
pair horizontal vertical = record { horizontal = border horizontal; vertical = border vertical }

-- of rows or of columns: "Horizontal and vertical dimension rows", and so on
abbrev pub dimension : Lines → Pair
dimension x = pair x.horizontal_dimension x.vertical_dimension

abbrev pub category : Lines → Pair
category x = pair x.horizontal_category x.vertical_category

-- 003, Borders, by border-type: "0: Title. 1...4: Left, top, right, and bottom outer frame" and so on
unfoldable pub borders : Lines → Lines → Frames → Borders
borders rows columns x = record {
  title = border x.title;
  outer = frame x.outer;
  inner = frame x.inner;
  data_left = border x.data_left;
  data_top = border x.data_top;
  dimension_rows = dimension rows;
  dimension_columns = dimension columns;
  category_rows = category rows;
  category_columns = category columns;
}

-- "a look's other fields are left out"
unfoldable pub styles : Look → Styles
styles x = record {
  areas = areas x.title x.most_areas;
  borders = borders x.rows x.columns x.v2.frames;
}
