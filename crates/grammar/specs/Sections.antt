-- Source document 003, the sections from "Header" to "Formats", with document 01's choices. The version, 1 or 3, is that of the Header.
use Rattle.std.specs.Prelude.{List, [], ◌∷◌, ℕ, eqb}
use Rattle.sizes.specs.Sizes.{most_footnotes}
use Rattle.sizes.specs.Basics.{pick}
use Rattle.grammar.specs.Layout.{little, optional, open_ended, Layout, empty, ◌▸◌, times, region}
use Rattle.grammar.specs.Conventions.{fixed, i, ib, byte, bool, int16, int32, be32, int64, float, lestring, bestring, v3, mark, at_most_many, many, bemany, if31, count, becount}
use Rattle.grammar.specs.Value.{Value, StylePair}

-- ---- 003, Header

-- bool[x0] bool[x1] bool[rotate-inner-column-labels] bool[rotate-outer-row-labels] bool[x2]
unfoldable pub HeaderFlags : Layout
HeaderFlags = bool ▸ bool ▸ bool ▸ bool ▸ bool

-- int32[x3] int32[min-col-heading-width] int32[max-col-heading-width]
-- int32[min-row-heading-width] int32[max-row-heading-width] int64[table-id]
unfoldable pub HeaderNumbers : Layout
HeaderNumbers = int32 ▸ int32 ▸ int32 ▸ int32 ▸ int32 ▸ int64

-- Header => 01 00 (i1 | i3)[version] ...: what stands before the version, the versions, and what follows it. The version decides what the
-- rest of the member is (Member)
unfoldable pub HeaderStart : Layout
HeaderStart = fixed 0x01 ▸ fixed 0x00

abbrev pub versions : List ℕ
versions = 1 ∷ 3 ∷ []

unfoldable pub HeaderRest : Layout
HeaderRest = HeaderFlags ▸ HeaderNumbers

-- ---- 003, Titles

-- Titles => Value[title] 01? Value[subtype] 01? 31 Value[user-title] 01? (31 Value[corner-text] | 58) (31 Value[caption] | 58)
-- document 01, our rule: after the title a byte 01 is always the mark
unfoldable pub Titles : ℕ → Layout
Titles version =
    Value version ▸ mark 0x01 (Value version) ▸ mark 0x01 (fixed 0x31) ▸ Value version ▸ mark 0x01 (if31 (Value version)) ▸ if31 (Value version)

-- ---- 003, Footnotes

-- Footnote => Value[text] (58 | 31 Value[marker]) int32[show]
unfoldable pub Footnote : ℕ → Layout
Footnote version = Value version ▸ if31 (Value version) ▸ int32

-- Footnotes => int32[n-footnotes] Footnote*[n-footnotes], within document 01's limit
unfoldable pub Footnotes : ℕ → Layout
Footnotes version = at_most_many most_footnotes (Footnote version)

-- ---- 003, Areas

-- byte[index] 31 string[typeface] float[size] int32[style] bool[underline] int32[halign] int32[valign]
unfoldable pub AreaFont : ℕ → Layout
AreaFont index = fixed index ▸ fixed 0x31 ▸ lestring ▸ float ▸ int32 ▸ bool ▸ int32 ▸ int32

-- string[fg-color] string[bg-color] bool[alternate] string[alt-fg-color] string[alt-bg-color]
unfoldable pub AreaColors : Layout
AreaColors = lestring ▸ lestring ▸ bool ▸ lestring ▸ lestring

-- v3(int32[left-margin] int32[right-margin] int32[top-margin] int32[bottom-margin])
unfoldable pub AreaMargins : Layout
AreaMargins = int32 ▸ int32 ▸ int32 ▸ int32

unfoldable pub Area : ℕ → ℕ → Layout
Area version index = AreaFont index ▸ AreaColors ▸ v3 version AreaMargins

-- Areas => 00? Area*8; document 01, our rule: they carry index 1 to 8 in order
unfoldable pub EightAreas : ℕ → Layout
EightAreas version =
    Area version 1 ▸ Area version 2 ▸ Area version 3 ▸ Area version 4 ▸ Area version 5 ▸ Area version 6 ▸ Area version 7 ▸ Area version 8

unfoldable pub Areas : ℕ → Layout
Areas version = mark 0x00 (EightAreas version)

-- ---- 003, Borders

-- Border => be32[border-type] be32[stroke-type] be32[color]
abbrev pub Border : Layout
Border = be32 ▸ be32 ▸ be32

-- Borders => count(ib1[endian] be32[n-borders] Border*[n-borders] bool[show-grid-lines] 00 00 00)
unfoldable pub BordersContent : Layout
BordersContent = ib 1 ▸ bemany Border ▸ bool ▸ fixed 0x00 ▸ fixed 0x00 ▸ fixed 0x00

unfoldable pub Borders : Layout
Borders = count BordersContent

-- ---- 003, Print Settings

-- PrintSettings => count(ib1[endian] bool[all-layers] bool[paginate-layers] bool[fit-width] bool[fit-length]
--     bool[top-continuation] bool[bottom-continuation] be32[n-orphan-lines] bestring[continuation-string])
unfoldable pub PrintSettingsContent : Layout
PrintSettingsContent = ib 1 ▸ bool ▸ bool ▸ bool ▸ bool ▸ bool ▸ bool ▸ be32 ▸ bestring

unfoldable pub PrintSettings : Layout
PrintSettings = count PrintSettingsContent

-- ---- 003, Table Settings

-- Breakpoints => be32[n-breaks] be32*[n-breaks]
abbrev pub Breakpoints : Layout
Breakpoints = bemany be32

-- Keeps => be32[n-keeps] Keep*[n-keeps], Keep => be32[offset] be32[n]
abbrev pub Keep : Layout
Keep = be32 ▸ be32

abbrev pub Keeps : Layout
Keeps = bemany Keep

-- PointKeeps => be32[n-point-keeps] PointKeep*[n-point-keeps], PointKeep => be32[offset] be32 be32
abbrev pub PointKeep : Layout
PointKeep = be32 ▸ be32 ▸ be32

abbrev pub PointKeeps : Layout
PointKeeps = bemany PointKeep

-- becount(Breakpoints[row-breaks] Breakpoints[column-breaks] Keeps[row-keeps] Keeps[column-keeps]
--     PointKeeps[row-point-keeps] PointKeeps[column-point-keeps])
unfoldable pub BreaksContent : Layout
BreaksContent = Breakpoints ▸ Breakpoints ▸ Keeps ▸ Keeps ▸ PointKeeps ▸ PointKeeps

-- ib1[endian] be32[x5] be32[current-layer] bool[omit-empty] bool[show-row-labels-in-corner]
-- bool[show-alphabetic-markers] bool[footnote-marker-superscripts] byte[x6]
unfoldable pub TableFlags : Layout
TableFlags = ib 1 ▸ be32 ▸ be32 ▸ bool ▸ bool ▸ bool ▸ bool ▸ byte

-- TableSettings => count(v3(... becount(...) bestring[notes] bestring[table-look])...)
unfoldable pub TableSettingsContent : Layout
TableSettingsContent = TableFlags ▸ becount BreaksContent ▸ bestring ▸ bestring

-- document 01: free content after the look's name; document 02, T-03: in version 1 from the first byte on
unfoldable pub TableSettings : ℕ → Layout
TableSettings version = region little open_ended (v3 version TableSettingsContent)

-- ---- 003, Formats

-- Y0 => int32[epoch] byte[decimal] byte[grouping]
unfoldable pub Y0 : Layout
Y0 = int32 ▸ byte ▸ byte

-- CustomCurrency => int32[n-ccs] string*[n-ccs]
unfoldable pub CustomCurrency : Layout
CustomCurrency = many lestring

-- 003, X0: Y1 => string[command] string[command-local] string[language] string[charset] string[locale]
--     bool[x10] bool[include-leading-zero] bool[x12] bool[x13] Y0
unfoldable pub Y1 : Layout
Y1 = lestring ▸ lestring ▸ lestring ▸ lestring ▸ lestring ▸ bool ▸ bool ▸ bool ▸ bool ▸ Y0

-- Y2 => CustomCurrency byte[missing] bool[x17]
unfoldable pub Y2 : Layout
Y2 = CustomCurrency ▸ byte ▸ bool

-- X0 => byte*14 Y1 Y2
unfoldable pub X0 : Layout
X0 = times 14 byte ▸ Y1 ▸ Y2

-- 003, X1: bool[x14] byte[show-title] bool[x16] byte[lang] byte[show-variables] byte[show-values] int32[x18] int32[x19]
unfoldable pub X1Start : Layout
X1Start = bool ▸ byte ▸ bool ▸ byte ▸ byte ▸ byte ▸ int32 ▸ int32

-- X1 => ... 00*17 bool[x20] bool[show-caption]
unfoldable pub X1 : Layout
X1 = X1Start ▸ times 17 (fixed 0x00) ▸ bool ▸ bool

-- 003, X2: StyleMap => int64[cell-index] int16[style-index]
abbrev pub StyleMap : Layout
StyleMap = int64 ▸ int16

-- X2 => int32[n-row-heights] int32*[n-row-heights] int32[n-style-map] StyleMap*[n-style-map]
--     int32[n-styles] StylePair*[n-styles] count((i0 i0)?)
unfoldable pub X2 : Layout
X2 = many int32 ▸ many StyleMap ▸ many StylePair ▸ region little optional (i 0 ▸ i 0)

-- v3(count(X1 count(X2)) count(X3)); document 01, our rule: the whole region of X3 is free
unfoldable pub X1X2 : Layout
X1X2 = count (X1 ▸ count X2)

unfoldable pub X3 : Layout
X3 = region little open_ended empty

-- count(v1(X0?) v3(count(X1 count(X2)) count(X3))); document 01: where all of a region's content is optional, it is there if the region has a byte
unfoldable pub FormatsEnd : ℕ → Layout
FormatsEnd version = pick (eqb version 1) (region little optional X0) (count (X1X2 ▸ X3))

-- Formats => int32[n-widths] int32*[n-widths] string[locale] int32[current-layer] bool[x7] bool[x8] bool[x9]
--     Y0 CustomCurrency count(...)
unfoldable pub Formats : ℕ → Layout
Formats version = many int32 ▸ lestring ▸ int32 ▸ bool ▸ bool ▸ bool ▸ Y0 ▸ CustomCurrency ▸ FormatsEnd version

-- ---- what stands before the dimensions

-- from the version on
unfoldable pub Front : ℕ → Layout
Front version = HeaderRest ▸ Titles version ▸ Footnotes version ▸ Areas version ▸ Borders ▸ PrintSettings ▸ TableSettings version ▸ Formats version
