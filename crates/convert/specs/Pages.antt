-- A page: a function from bytes to code points, and the way back. The pages are numbered 0, 1 and 2, for windows-1250, 1251 and 1252.
use Rattle.std.specs.Prelude.{List, [], ◌∷◌, ℕ, suc, ◌-◌, ◌*◌, eqb, ltb, get_or, take, drop}
use Rattle.sizes.specs.Basics.{pick}
use Rattle.convert.specs.Table.{entries}

-- ---- numbers

-- "windows-1250 and windows-1251, the others windows-1252" (document 02, T-08)
abbrev pub first_page : ℕ
first_page = 1250

abbrev pub page_count : ℕ
page_count = 3

-- "Three pages of 128 entries in one constant table" (document 01, "List of forms by place")
abbrev pub page_entries : ℕ
page_entries = 128

-- "bytes under 128 stand for themselves" (document 02, T-08)
abbrev pub ascii : ℕ
ascii = 128

-- no code point: the first number after the last one, 10FFFF (Unicode, 3.4, D9)
abbrev pub no_code_point : ℕ
no_code_point = 1114112

-- no byte: the first number after the last one (our rule)
abbrev pub no_byte : ℕ
no_byte = 256

-- ---- the two functions

-- the entries of page k, for the bytes from 128 on
unfoldable pub page : ℕ → List ℕ
page k = take page_entries (drop (page_entries * k) entries)

-- what an entry gives: nothing where there is none, and no control character in its place (our rule)
unfoldable pub listed : ℕ → ℕ
listed e = pick (eqb e 0) no_code_point e

-- the code point of a byte
unfoldable pub code_point : ℕ → ℕ → ℕ
code_point k b = pick (ltb b ascii) b (listed (get_or (page k) (b - ascii) 0))

-- the first place of a code point among entries whose places are counted from b
unfoldable pub position : ℕ → ℕ → List ℕ → ℕ
position c b [] = no_byte
position c b (x ∷ xs) = pick (eqb x c) b (position c (suc b) xs)

-- the byte of a code point
unfoldable pub byte : ℕ → ℕ → ℕ
byte k c = pick (ltb c ascii) c (position c ascii (page k))
