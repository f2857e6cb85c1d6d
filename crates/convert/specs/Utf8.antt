-- UTF-8, by the four rows of Unicode's table 3-6 (UTF-8 Bit Distribution).
use Rattle.std.specs.Prelude.{Bool, true, false, List, [], ◌∷◌, ℕ, ◌+◌, ◌-◌, ◌*◌, ◌/◌, ◌%◌, ltb, get_or}
use Rattle.sizes.specs.Basics.{pick}
use Rattle.convert.specs.Pages.{ascii, no_code_point}

-- ---- numbers

-- the first code point of the rows of two, three and four bytes (Unicode, table 3-6; the row of one byte ends where `ascii` does)
abbrev pub two_bytes : ℕ
two_bytes = ascii

abbrev pub three_bytes : ℕ
three_bytes = 2048

abbrev pub four_bytes : ℕ
four_bytes = 65536

-- the first surrogate, and the first code point after the surrogates (Unicode, 3.8, D71 and D73)
abbrev pub surrogates : ℕ
surrogates = 55296

abbrev pub after_surrogates : ℕ
after_surrogates = 57344

-- ---- encoding

-- "Unicode scalar value: any code point except surrogates" (Unicode, 3.9, D76)
unfoldable pub scalar : ℕ → Bool
scalar c = pick (ltb c surrogates) true (pick (ltb c after_surrogates) false (ltb c no_code_point))

-- the bytes of a scalar value (Unicode, table 3-6)
unfoldable pub encode : ℕ → List ℕ
encode c =
    pick (ltb c two_bytes) (c ∷ [])
    (pick (ltb c three_bytes) ((192 + c / 64) ∷ (128 + c % 64) ∷ [])
    (pick (ltb c four_bytes) ((224 + c / 4096) ∷ (128 + c / 64 % 64) ∷ (128 + c % 64) ∷ [])
    ((240 + c / 262144) ∷ (128 + c / 4096 % 64) ∷ (128 + c / 64 % 64) ∷ (128 + c % 64) ∷ [])))

-- ---- decoding: the same rows, read from right to left. `decode_encode` and `encode_decode` in proofs/Laws/Utf8.antt say that this is `encode` backwards.

unfoldable pub continuation : ℕ → Bool
continuation x = pick (ltb x 128) false (ltb x 192)

-- the code point that a row gives, if it is a scalar value and not below the row's first one, `least`: that would not be the shortest form
unfoldable pub shortest : ℕ → ℕ → ℕ
shortest least c = pick (ltb c least) no_code_point (pick (scalar c) c no_code_point)

unfoldable pub row_two : ℕ → ℕ → ℕ
row_two a b = pick (continuation b) (shortest two_bytes ((a - 192) * 64 + (b - 128))) no_code_point

unfoldable pub row_three : ℕ → ℕ → ℕ → ℕ
row_three a b d =
    pick (continuation b)
    (pick (continuation d) (shortest three_bytes ((a - 224) * 4096 + (b - 128) * 64 + (d - 128))) no_code_point)
    no_code_point

unfoldable pub row_four : ℕ → ℕ → ℕ → ℕ → ℕ
row_four a b d e =
    pick (continuation b)
    (pick (continuation d)
    (pick (continuation e) (shortest four_bytes ((a - 240) * 262144 + (b - 128) * 4096 + (d - 128) * 64 + (e - 128))) no_code_point)
    no_code_point)
    no_code_point

-- the character that begins with these bytes
unfoldable pub row : ℕ → ℕ → ℕ → ℕ → ℕ
row a b d e = pick (ltb a 128) a (pick (ltb a 224) (row_two a b) (pick (ltb a 240) (row_three a b d) (row_four a b d e)))

-- the character at the front of a text. A byte past the end counts as 0, which is no continuation byte
unfoldable pub decode : List ℕ → ℕ
decode u = row (get_or u 0 0) (get_or u 1 0) (get_or u 2 0) (get_or u 3 0)
