-- The layout of binary table looks: source document 002, "The .tlo Format", its productions in its order and under its names, with the
-- choices of document 01, "The looks". It says what is allowed, and nothing of how it is found out.
use Rattle.std.specs.Prelude.{Bool, true, false, List, [], ◌∷◌, ℕ, length, eqb}
use Rattle.grammar.specs.Layout.{little, big, the_number, a_version, one_of, a_color, at_most, any_bytes, Layout, empty, number, string, ◌▸◌, times, undigits}
use Rattle.grammar.specs.Conventions.{field, fixed, i, byte, bool, int16, int32}

-- "The quoted names in 002 are class names, and each carries a 16-bit little-endian length before its letters"; "the length is one field, the
-- letters the next" (document 02, T-02)
abbrev pub quoted : List ℕ → Layout
quoted letters = field little 2 (the_number (length letters)) ▸ field big (length letters) (the_number (undigits big letters))

-- "int32 values in which the low 8 bits are the red component, the next 8 bits are green, and next 8 bits are blue, and the high bits are
-- zeros"
abbrev pub color : Layout
color = field little 4 a_color

-- a length byte and as many bytes of any value, one field (document 01; document 02, T-06: "the looks aren't affected")
abbrev pub name : Layout
name = string little 1 any_bytes

-- ff ff 00 00 and the class name, with which each of the first four sections begins
abbrev pub section : List ℕ → Layout
section letters = fixed 0xff ▸ fixed 0xff ▸ fixed 0 ▸ fixed 0 ▸ quoted letters

unfoldable pub PTTable_look_name : List ℕ
PTTable_look_name = 0x50 ∷ 0x54 ∷ 0x54 ∷ 0x61 ∷ 0x62 ∷ 0x6c ∷ 0x65 ∷ 0x4c ∷ 0x6f ∷ 0x6f ∷ 0x6b ∷ []

unfoldable pub PVSeparator_style_name : List ℕ
PVSeparator_style_name = 0x50 ∷ 0x56 ∷ 0x53 ∷ 0x65 ∷ 0x70 ∷ 0x61 ∷ 0x72 ∷ 0x61 ∷ 0x74 ∷ 0x6f ∷ 0x72 ∷ 0x53 ∷ 0x74 ∷ 0x79 ∷ 0x6c ∷ 0x65 ∷ []

unfoldable pub PVCell_style_name : List ℕ
PVCell_style_name = 0x50 ∷ 0x56 ∷ 0x43 ∷ 0x65 ∷ 0x6c ∷ 0x6c ∷ 0x53 ∷ 0x74 ∷ 0x79 ∷ 0x6c ∷ 0x65 ∷ []

unfoldable pub PVText_style_name : List ℕ
PVText_style_name = 0x50 ∷ 0x56 ∷ 0x54 ∷ 0x65 ∷ 0x78 ∷ 0x74 ∷ 0x53 ∷ 0x74 ∷ 0x79 ∷ 0x6c ∷ 0x65 ∷ []

-- PTTableLook after its version: flags, nested-row-labels, footnote-marker-subscripts
abbrev pub settings : Layout
settings = int16 ▸ fixed 0 ▸ fixed 0 ▸ bool ▸ fixed 0 ▸ bool ▸ fixed 0 ▸ i 54 ▸ i 18

-- PTTableLook, of one of these versions, and the rest of the look, which goes by the version
abbrev pub PTTableLook : List ℕ → (ℕ → Layout) → Layout
PTTableLook versions rest = section PTTable_look_name ▸ number little 1 (a_version versions) (λ version. settings ▸ rest version)

-- Separator: 00 00 | 01 00 int32[color] int16[style] int16[width], by the type; there is no third type
abbrev pub undrawn : Layout
undrawn = fixed 0

abbrev pub drawn : Layout
drawn = fixed 0 ▸ color ▸ int16 ▸ int16

abbrev pub SeparatorIf : Bool → Layout
SeparatorIf true = drawn
SeparatorIf false = undrawn

abbrev pub Separator : Layout
Separator = number little 1 (one_of (0 ∷ 1 ∷ [])) (λ type. SeparatorIf (eqb type 1))

abbrev pub PVSeparatorStyle : Layout
PVSeparatorStyle = section PVSeparator_style_name ▸ fixed 0 ▸ times 4 Separator ▸ fixed 3 ▸ fixed 0x80 ▸ fixed 0 ▸ times 4 Separator

-- "Shading above 10 is number 7 at the shading byte" (document 01)
abbrev pub AreaColor : Layout
AreaColor = fixed 0 ▸ fixed 1 ▸ fixed 0 ▸ color ▸ color ▸ field little 1 (at_most 10) ▸ fixed 0

abbrev pub PVCellStyle : Layout
PVCellStyle = section PVCell_style_name ▸ AreaColor

-- AreaStyle, line by line: valign, halign, decimal-offset, and the margins left, right, top and bottom
abbrev pub alignment : Layout
alignment = int16 ▸ int16 ▸ int16 ▸ int16 ▸ int16 ▸ int16 ▸ int16 ▸ fixed 0 ▸ fixed 0 ▸ fixed 1 ▸ fixed 0

-- font-size, stretch, rotation-angle, weight
abbrev pub font : Layout
font = int32 ▸ int16 ▸ times 2 (fixed 0) ▸ int32 ▸ times 4 (fixed 0) ▸ int16 ▸ times 2 (fixed 0)

-- italic, underline, strikethrough, rtf-charset-number, x, font-name, text-color
abbrev pub typeface : Layout
typeface = bool ▸ bool ▸ bool ▸ int32 ▸ byte ▸ name ▸ color ▸ times 2 (fixed 0)

abbrev pub AreaStyle : Layout
AreaStyle = alignment ▸ font ▸ typeface

abbrev pub MostAreas : Layout
MostAreas = fixed 6 ▸ fixed 0x80 ▸ AreaColor ▸ fixed 8 ▸ fixed 0x80 ▸ fixed 0 ▸ AreaStyle

abbrev pub PVTextStyle : Layout
PVTextStyle = section PVText_style_name ▸ fixed 0 ▸ AreaStyle ▸ times 7 MostAreas

-- sep3, continuation, min-col-width, max-col-width, min-row-height, max-row-height
abbrev pub V2Styles : Layout
V2Styles = times 11 Separator ▸ name ▸ int32 ▸ int32 ▸ int32 ▸ int32

-- version 00 lacks V2Styles, version 02 includes it (002, PTTableLook; document 01, "The looks")
abbrev pub V2StylesIf : Bool → Layout
V2StylesIf true = V2Styles
V2StylesIf false = empty

-- TableLook, after PTTableLook: three sections, and the optional one
abbrev pub sections : Layout → Layout
sections v2 = PVSeparatorStyle ▸ PVCellStyle ▸ PVTextStyle ▸ v2

-- the files that are read: "version is 00 or 02"
abbrev pub TableLook : Layout
TableLook = PTTableLook (0 ∷ 2 ∷ []) (λ version. sections (V2StylesIf (eqb version 2)))

-- those of version 02 alone, in which every look is answered and written (document 02, T-10)
abbrev pub TableLook02 : Layout
TableLook02 = PTTableLook (2 ∷ []) (λ version. sections V2Styles)
