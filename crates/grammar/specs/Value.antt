-- Source document 003, "Value" and "ValueMod", with document 01's choices. The version, 1 or 3, is that of the Header.
use Rattle.std.specs.Prelude.{Bool, List, [], ◌∷◌, ℕ, zero, suc, eqb}
use Rattle.sizes.specs.Sizes.{value_depth, below_value}
use Rattle.sizes.specs.Basics.{pick}
use Rattle.grammar.specs.Layout.{little, any_number, optional, Layout, empty, number, ◌▸◌, times, leading, region, nothing}
use Rattle.grammar.specs.Conventions.{fixed, i, byte, bool, int16, int32, double, lestring, many, either, either_but, if31, alternatives_but, count}

-- ---- 003, ValueMod

-- FontStyle => bool[bold] bool[italic] bool[underline] bool[show] string[fg-color] string[bg-color] string[typeface] byte[size]
unfoldable pub FontStyle : Layout
FontStyle = bool ▸ bool ▸ bool ▸ bool ▸ lestring ▸ lestring ▸ lestring ▸ byte

-- CellStyle => int32[halign] int32[valign] double[decimal-offset]
--     int16[left-margin] int16[right-margin] int16[top-margin] int16[bottom-margin]
unfoldable pub CellStyle : Layout
CellStyle = int32 ▸ int32 ▸ double ▸ int16 ▸ int16 ▸ int16 ▸ int16

-- StylePair => (31 FontStyle | 58) (31 CellStyle | 58)
unfoldable pub StylePair : Layout
StylePair = if31 FontStyle ▸ if31 CellStyle

-- TemplateString => count((count((i0 (58 | 31 55))?) (58 | 31 string[id]))?)
unfoldable pub TemplatePrefix : Layout
TemplatePrefix = region little optional (i 0 ▸ either 0x58 empty 0x31 (fixed 0x55))

unfoldable pub TemplateString : Layout
TemplateString = region little optional (TemplatePrefix ▸ if31 lestring)

-- what follows the 31 of a ValueMod:
-- int32[n-refs] int16*[n-refs] int32[n-subscripts] string*[n-subscripts] v3(count(TemplateString StylePair))
unfoldable pub Modifiers : Layout
Modifiers = many int16 ▸ many lestring ▸ count (TemplateString ▸ StylePair)

-- the long form of a ValueMod, beginning 31, is left out in version 1: it can't be read one way only (document 02, T-03)
abbrev pub without_long_form : ℕ → Bool
without_long_form version = eqb version 1

abbrev pub left_out : ℕ → List ℕ
left_out version = pick (without_long_form version) (0x31 ∷ []) []

-- ValueMod => 58 | 31 ...
unfoldable pub ValueMod : ℕ → Layout
ValueMod version = either_but (left_out version) 0x31 Modifiers 0x58 empty

-- ---- 003, Value

-- Argument => i0 Value | int32[x] i0 Value*[x] /* x > 0 */, where v is the Value
unfoldable pub ArgumentOf : Layout → Layout
ArgumentOf v = number little 4 any_number (λ x. pick (eqb x 0) v (i 0 ▸ times x v))

-- string[template] int32[n-args] Argument*[n-args]
unfoldable pub TemplateOf : Layout → Layout
TemplateOf v = lestring ▸ many (ArgumentOf v)

-- RawValue, what follows the first byte of each form:

-- 01 ValueMod int32[format] double[x]
unfoldable pub Form01 : ℕ → Layout
Form01 version = ValueMod version ▸ int32 ▸ double

-- 02 ValueMod int32[format] double[x] string[var-name] string[value-label] byte[show]
unfoldable pub Form02 : ℕ → Layout
Form02 version = ValueMod version ▸ int32 ▸ double ▸ lestring ▸ lestring ▸ byte

-- 03 string[local] ValueMod string[id] string[c] bool[fixed]
unfoldable pub Form03 : ℕ → Layout
Form03 version = lestring ▸ ValueMod version ▸ lestring ▸ lestring ▸ bool

-- 04 ValueMod int32[format] string[value-label] string[var-name] byte[show] string[s]
unfoldable pub Form04 : ℕ → Layout
Form04 version = ValueMod version ▸ int32 ▸ lestring ▸ lestring ▸ byte ▸ lestring

-- 05 ValueMod string[var-name] string[var-label] byte[show]
unfoldable pub Form05 : ℕ → Layout
Form05 version = ValueMod version ▸ lestring ▸ lestring ▸ byte

-- 06 string[local] ValueMod string[id] string[c]
unfoldable pub Form06 : ℕ → Layout
Form06 version = lestring ▸ ValueMod version ▸ lestring ▸ lestring

-- each form by its first byte; the last, ValueMod string[template] ..., begins with the 31 or the 58 of its ValueMod
abbrev pub forms : ℕ → Layout → List (ℕ × Layout)
forms version v =
    (1, Form01 version) ∷ (2, Form02 version) ∷ (3, Form03 version) ∷ (4, Form04 version) ∷ (5, Form05 version) ∷ (6, Form06 version)
    ∷ (0x31, Modifiers ▸ TemplateOf v) ∷ (0x58, TemplateOf v) ∷ []

unfoldable pub RawValueOf : ℕ → Layout → Layout
RawValueOf version v = alternatives_but (left_out version) (forms version v)

-- Value => 00? 00? 00? 00? RawValue, of which d levels may be nested (document 01: one run of 0 to 4 bytes of 00)
unfoldable pub ValueIn : ℕ → ℕ → Layout
ValueIn version zero = nothing
ValueIn version (suc d) = leading 0 4 (RawValueOf version (ValueIn version d))

unfoldable pub Value : ℕ → Layout
Value version = ValueIn version value_depth

-- Cell => int64[index] v1(00?) Value: the Value of a cell, with all the bytes 00 before it (document 02, T-03: one run of 0 to 5 in version 1)
abbrev pub cell_zeros : ℕ → ℕ
cell_zeros version = pick (eqb version 1) 5 4

unfoldable pub CellValue : ℕ → Layout
CellValue version = leading 0 (cell_zeros version) (RawValueOf version (ValueIn version below_value))

abbrev pub Argument : ℕ → ℕ → Layout
Argument version d = ArgumentOf (ValueIn version d)
