-- Which accepted looks can't become the styles of a member, by which number, and where in the look's file: document 02, T-12, "29 at a drawn
-- separator whose style and width, or at an alignment, that 002 doesn't list; 7 at a font size of 0 or above or with a height over 1,000,000;
-- 18 at the length byte of a font name with a zero byte; these in file order". The rule follows the productions of looks
-- (look/specs/Look.antt) in their order and under their names: a test stands where its field stands.
use Rattle.std.specs.Prelude.{Bool, true, false, ℕ, ◌-◌, ◌^◌, eqb, leb}
use Rattle.std.proofs.Math.Option.{none, some}
use Rattle.sizes.specs.Basics.{pick}
use Rattle.grammar.specs.Layout.{no_zero, Layout, empty, ◌▸◌, times, Tree, suits}
use Rattle.grammar.specs.Conventions.{fixed, byte, bool, int16, int32}
use Rattle.grammar.specs.Numbers.{zero_byte, limit_passed}
use Rattle.grammar.specs.Rule.{Rule, plain, ◌▸▸◌, numbered, items, tested}
use Rattle.look.specs.declared.Separator as border
use Rattle.look.specs.declared.Separator.TheVariants.{NotDrawn, Drawn}
use Rattle.look.specs.Look.{color, name, section, PTTable_look_name, PVSeparator_style_name, PVText_style_name, settings, SeparatorIf, Separator, PVSeparatorStyle, AreaColor, PVCellStyle, alignment, font, typeface, AreaStyle, MostAreas, PVTextStyle, V2Styles, V2StylesIf, sections, TableLook}

-- ---- rules of one symbol

-- one after the other, where the second doesn't ask what the first was
infixl 20 ◌▹◌
abbrev pub ◌▹◌ : {a b : Layout} → Rule a → Rule b → Rule (a ▸ b)
u ▹ v = u ▸▸ (λ _. v)

-- n times the same
abbrev pub each : {n : ℕ} {a : Layout} → Rule a → Rule (times n a)
each u = items (λ _. u)

-- a symbol that passes a test; otherwise refusal n at its first byte
abbrev pub asks : (g : Layout) → ℕ → (Tree g → Bool) → Rule g
asks g n test = tested (plain g) n (λ t. pick (test t) none (some 0))

-- a style, width or alignment "that 002 doesn't list"
abbrev pub not_listed : ℕ
not_listed = 29

-- ---- separators

-- 002, PVSeparatorStyle: "style = 0 and 0 ≤ width ≤ 3", "style = 1 and 0 ≤ width ≤ 1", "style = 2"
unfoldable pub listed : ℕ → ℕ → Bool
unfolding pick
listed style width = pick (eqb style 0) (leb width 3) (pick (eqb style 1) (leb width 1) (eqb style 2))

-- a border that isn't drawn has no style
abbrev pub listed_border : border.Separator → Bool
listed_border NotDrawn = true
listed_border (Drawn _ style width) = listed style width

-- of a tree: 01 00 int32[color] int16[style] int16[width]
abbrev pub listed_if : (b : Bool) → Tree (SeparatorIf b) → Bool
listed_if true t = listed t.0.1.0 t.1.0
listed_if false t = true

abbrev pub listed_separator : Tree Separator → Bool
listed_separator t = listed_if (eqb t.0 1) t.1

unfoldable pub separator_rule : Rule Separator
separator_rule = asks Separator not_listed listed_separator

abbrev pub PVSeparatorStyleRule : Rule PVSeparatorStyle
PVSeparatorStyleRule =
    plain (section PVSeparator_style_name ▸ fixed 0) ▹ each separator_rule ▹ plain (fixed 3) ▹ plain (fixed 0x80) ▹ plain (fixed 0) ▹ each separator_rule

-- ---- areas

-- a number up to the last that is listed
unfoldable pub align_rule : ℕ → Rule int16
align_rule last = asks int16 not_listed (λ t. leb t.0 last)

-- "valign is 0 for top alignment, 1 for bottom alginment, 2 for center"
abbrev pub last_valign : ℕ
last_valign = 2

abbrev pub valign_rule : Rule int16
valign_rule = align_rule last_valign

-- "halign is 0 for left alignment, 1 for right, 2 for center, 3 for mixed, 4 for decimal"
abbrev pub last_halign : ℕ
last_halign = 4

abbrev pub halign_rule : Rule int16
halign_rule = align_rule last_halign

-- valign, halign, decimal-offset, and the margins left, right, top and bottom
unfoldable pub alignment_rule : Rule alignment
alignment_rule =
    valign_rule ▹ halign_rule ▹ plain int16 ▹ plain int16 ▹ plain int16 ▹ plain int16 ▹ plain int16 ▹ plain (fixed 0) ▹ plain (fixed 0)
    ▹ plain (fixed 1) ▹ plain (fixed 0)

-- "a height over 1,000,000"
abbrev pub most_height : ℕ
most_height = 1000000

-- the height of a font whose size is these 32 bits in two's complement: -n for a size n below 0
abbrev pub height : ℕ → ℕ
height bits = 2 ^ 32 - bits

-- the size is below 0, and its height isn't over the limit
unfoldable pub has_height : ℕ → Bool
unfolding pick
has_height bits = pick (leb (2 ^ 31) bits) (leb (height bits) most_height) false

unfoldable pub size_rule : Rule int32
size_rule = asks int32 limit_passed (λ t. has_height t.0)

-- font-size, stretch, rotation-angle, weight
unfoldable pub font_rule : Rule font
font_rule =
    size_rule ▹ plain int16 ▹ plain (times 2 (fixed 0)) ▹ plain int32 ▹ plain (times 4 (fixed 0)) ▹ plain int16 ▹ plain (times 2 (fixed 0))

-- the length byte is the first byte of a name
unfoldable pub name_rule : Rule name
name_rule = asks name zero_byte (λ t. suits no_zero t)

-- italic, underline, strikethrough, rtf-charset-number, x, font-name, text-color
unfoldable pub typeface_rule : Rule typeface
typeface_rule = plain (bool ▸ bool ▸ bool ▸ int32 ▸ byte) ▹ name_rule ▹ plain color ▹ plain (times 2 (fixed 0))

unfoldable pub AreaStyleRule : Rule AreaStyle
AreaStyleRule = alignment_rule ▹ font_rule ▹ typeface_rule

unfoldable pub MostAreasRule : Rule MostAreas
MostAreasRule = plain (fixed 6 ▸ fixed 0x80 ▸ AreaColor ▸ fixed 8 ▸ fixed 0x80 ▸ fixed 0) ▹ AreaStyleRule

abbrev pub PVTextStyleRule : Rule PVTextStyle
PVTextStyleRule = plain (section PVText_style_name ▸ fixed 0) ▹ AreaStyleRule ▹ each MostAreasRule

-- ---- the whole look

-- of its strings, "a font name" alone is asked: the continuation isn't
abbrev pub V2StylesRule : Rule V2Styles
V2StylesRule = each separator_rule ▹ plain name ▹ plain int32 ▹ plain int32 ▹ plain int32 ▹ plain int32

abbrev pub V2StylesIfRule : (b : Bool) → Rule (V2StylesIf b)
V2StylesIfRule true = V2StylesRule
V2StylesIfRule false = plain empty

abbrev pub sections_rule : {v2 : Layout} → Rule v2 → Rule (sections v2)
sections_rule v2 = PVSeparatorStyleRule ▹ plain PVCellStyle ▹ PVTextStyleRule ▹ v2

unfoldable pub style_rule : Rule TableLook
style_rule = plain (section PTTable_look_name) ▹ numbered (λ version. plain settings ▹ sections_rule (V2StylesIfRule (eqb version 2)))
