-- Sections by computation: what the definitions say of fields, as bytes that are written out from 003, and by its lists of areas and borders.
use Rattle.std.specs.Prelude.{◌≡◌, refl, true, List, [], ◌∷◌, ◌++◌, ℕ, take, drop}
use Rattle.sizes.specs.Basics.{pick, le}
use Rattle.grammar.specs.Layout.{digits, spell_all, spell_fill, spell}
use Rattle.grammar.specs.Sections as grammar
use Rattle.grammar.specs.Sections.{AreaFont, AreaColors, AreaMargins, EightAreas, BordersContent}
use Rattle.store.specs.Fields.{Fields, bytes_of, text_of, resolve_all, resolve_in, resolve, bytes_in}
use Rattle.look.specs.Values.{◌&◌, num}
use Rattle.styles.specs.declared.Area.{Area}
use Rattle.styles.specs.declared.Areas.{Areas}
use Rattle.styles.specs.declared.Border.{Border}
use Rattle.styles.specs.declared.Borders.{Borders}
use Rattle.sections_put.specs.Fields.{digit, hex, font, colors, margins, area, eight_areas, lines, content, borders}

-- ---- colors: red is the low byte of a look's color, and the first two digits

-- #ff0000
red_letters : hex 0x0000ff ≡ 0x23 ∷ 0x66 ∷ 0x66 ∷ 0x30 ∷ 0x30 ∷ 0x30 ∷ 0x30 ∷ []
unfolding hex digit pick
red_letters = refl

-- #09a1bf
digits_in_order : hex 0xbfa109 ≡ 0x23 ∷ 0x30 ∷ 0x39 ∷ 0x61 ∷ 0x31 ∷ 0x62 ∷ 0x66 ∷ []
unfolding hex digit pick
digits_in_order = refl

-- ---- areas

-- an area of a size, whose other fields all differ; its name is the second of the lent bytes
sample : ℕ → Area
sample n = record {
  typeface = record { place = 1; length = 1 };
  size = n;
  style = 3;
  underline = true;
  halign = 64173;
  valign = 1;
  fg_color = 0x0000ff;
  bg_color = 0xff0000;
  left_margin = 4;
  right_margin = 5;
  top_margin = 6;
  bottom_margin = 7;
}

-- 003, Area: "byte[index] 31 string[typeface] float[size] int32[style] bool[underline] int32[halign] int32[valign] string[fg-color] string[bg-color]
-- bool[alternate] string[alt-fg-color] string[alt-bg-color]" and the margins left, right, top and bottom; "alternate off with empty strings"
area_bytes : bytes_in (grammar.Area 3 7) (0x40 ∷ 0x41 ∷ []) (area 7 (sample 0x41400000))
    ≡ (0x07 ∷ 0x31 ∷ 1 ∷ 0 ∷ 0 ∷ 0 ∷ 0x41 ∷ 0x00 ∷ 0x00 ∷ 0x40 ∷ 0x41 ∷ 3 ∷ 0 ∷ 0 ∷ 0 ∷ 1 ∷ 0xad ∷ 0xfa ∷ 0 ∷ 0 ∷ 1 ∷ 0 ∷ 0 ∷ 0 ∷ [])
    ++ ((7 ∷ 0 ∷ 0 ∷ 0 ∷ 0x23 ∷ 0x66 ∷ 0x66 ∷ 0x30 ∷ 0x30 ∷ 0x30 ∷ 0x30 ∷ []) ++ ((7 ∷ 0 ∷ 0 ∷ 0 ∷ 0x23 ∷ 0x30 ∷ 0x30 ∷ 0x30 ∷ 0x30 ∷ 0x66 ∷ 0x66 ∷ [])
    ++ ((0 ∷ 0 ∷ 0 ∷ 0 ∷ 0 ∷ 0 ∷ 0 ∷ 0 ∷ 0 ∷ []) ++ (4 ∷ 0 ∷ 0 ∷ 0 ∷ 5 ∷ 0 ∷ 0 ∷ 0 ∷ 6 ∷ 0 ∷ 0 ∷ 0 ∷ 7 ∷ 0 ∷ 0 ∷ 0 ∷ []))))
unfolding bytes_in spell resolve text_of bytes_of digits le grammar.Area pick AreaFont AreaColors AreaMargins area font colors margins hex digit sample
area_bytes = refl

-- 003, Areas: "in the following order: title, caption, footer, corner, column labels, row labels, data, and layers", with index 1 to 8: here each
-- has its index as its size
by_name : Areas
by_name = record {
  title = sample 1;
  caption = sample 2;
  footer = sample 3;
  corner = sample 4;
  column_labels = sample 5;
  row_labels = sample 6;
  «data» = sample 7;
  layers = sample 8;
}

by_index : Fields (EightAreas 3)
unfolding EightAreas
by_index =
    area 1 (sample 1) & area 2 (sample 2) & area 3 (sample 3) & area 4 (sample 4) & area 5 (sample 5) & area 6 (sample 6) & area 7 (sample 7)
    & area 8 (sample 8)

areas_in_order : eight_areas by_name ≡ by_index
unfolding EightAreas eight_areas by_name by_index
areas_in_order = refl

-- ---- borders

-- a border whose stroke is this number
drawn : ℕ → Border
drawn n = record { stroke = n; color = 0xff010203 }

-- 003, Borders: "0: Title. 1...4: Left, top, right, and bottom outer frame. 5...8: Left, top, right, and bottom inner frame. 9, 10: Left and top of
-- data area. 11, 12: Horizontal and vertical dimension rows. 13, 14: .. dimension columns. 15, 16: .. category rows. 17, 18: .. category columns":
-- here each has its type as its stroke
by_type : Borders
by_type = record {
  title = drawn 0;
  outer = record { left = drawn 1; top = drawn 2; right = drawn 3; bottom = drawn 4 };
  inner = record { left = drawn 5; top = drawn 6; right = drawn 7; bottom = drawn 8 };
  data_left = drawn 9;
  data_top = drawn 10;
  dimension_rows = record { horizontal = drawn 11; vertical = drawn 12 };
  dimension_columns = record { horizontal = drawn 13; vertical = drawn 14 };
  category_rows = record { horizontal = drawn 15; vertical = drawn 16 };
  category_columns = record { horizontal = drawn 17; vertical = drawn 18 };
}

-- type, stroke and color
same : ℕ → Fields grammar.Border
same n = num n & num n & num 0xff010203

lines_in_order : lines by_type
    ≡ same 0 ∷ same 1 ∷ same 2 ∷ same 3 ∷ same 4 ∷ same 5 ∷ same 6 ∷ same 7 ∷ same 8 ∷ same 9 ∷ same 10 ∷ same 11 ∷ same 12 ∷ same 13 ∷ same 14 ∷ same 15 ∷ same 16
    ∷ same 17 ∷ same 18 ∷ []
unfolding by_type drawn same
lines_in_order = refl

-- 003, Borders: the count, 240; 1 and 19, highest byte first; the title's border; and at the end no grid lines, and 00 00 00
borders_bytes : List ℕ
borders_bytes = bytes_in grammar.Borders [] (borders by_type)

borders_front : take 24 borders_bytes
    ≡ 0xf0 ∷ 0 ∷ 0 ∷ 0 ∷ 0 ∷ 0 ∷ 0 ∷ 1 ∷ 0 ∷ 0 ∷ 0 ∷ 19 ∷ 0 ∷ 0 ∷ 0 ∷ 0 ∷ 0 ∷ 0 ∷ 0 ∷ 0 ∷ 0xff ∷ 0x01 ∷ 0x02 ∷ 0x03 ∷ []
unfolding borders_bytes bytes_in spell spell_all spell_fill resolve resolve_all resolve_in digits le grammar.Borders BordersContent borders content by_type drawn
borders_front = refl

borders_end : drop 240 borders_bytes ≡ 0 ∷ 0 ∷ 0 ∷ 0 ∷ []
unfolding borders_bytes bytes_in spell spell_all spell_fill resolve resolve_all resolve_in digits le grammar.Borders BordersContent borders content by_type drawn
borders_end = refl
