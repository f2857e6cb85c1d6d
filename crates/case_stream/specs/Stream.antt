-- What a whole stream of case data means, as a function of all its bytes, with no state and no cuts (document 02, T-05; source document 004,
-- "Data Record", compression 1).
use Rattle.std.specs.Prelude.{true, false, List, [], ◌∷◌, ◌++◌, ℕ, zero, suc, ◌+◌, ◌%◌, eqb, leb, ltb, pos, Float, length, take, drop, get_or}
use Rattle.std.specs.Float.{binary64}
use Rattle.std.specs.Float.Ieee.{sub, of_int, to_bits}
use Rattle.sizes.specs.Basics.{le, pick}

-- ---- 1. what a code says

-- eight bytes
abbrev pub Element : Type 0
Element = List ℕ

-- "7 likewise at position 4,294,967,295, the first byte too many" (02, T-05)
abbrev pub limit : ℕ
limit = 4294967295

-- codes with a meaning of their own (004, Data Record)
abbrev pub finish_code : ℕ
finish_code = 252

abbrev pub block_code : ℕ
block_code = 253

abbrev pub spaces_code : ℕ
spaces_code = 254

abbrev pub missing_code : ℕ
missing_code = 255

-- "the kinds of a case's elements, 1 to 256 of them, numeric or string, and a bias that is a whole number from 0 to 255" (02, T-05); which
-- number stands for a kind is our rule
abbrev pub numeric_kind : ℕ
numeric_kind = 0

abbrev pub string_kind : ℕ
string_kind = 1

abbrev pub most_kinds : ℕ
most_kinds = 256

abbrev pub most_bias : ℕ
most_bias = 255

-- "Code and bias become f64 without loss and are subtracted" (01, List of forms); proofs/Laws/Exact.antt proves that nothing is lost
abbrev pub difference : ℕ → ℕ → Float
difference code bias = sub binary64 (of_int binary64 (pos code)) (of_int binary64 (pos bias))

-- "a code from 1 to 251 becomes the double code minus bias", "doubles little-endian" (02, T-05)
unfoldable pub double : ℕ → ℕ → Element
double code bias = le 8 (to_bits binary64 (difference code bias))

-- "the missing double": minus the largest finite one (004; 02, T-01)
abbrev pub missing : Element
missing = 255 ∷ 255 ∷ 255 ∷ 255 ∷ 255 ∷ 255 ∷ 239 ∷ 255 ∷ []

-- "eight spaces", "eight zero bytes" (02, T-05)
abbrev pub spaces : Element
spaces = 32 ∷ 32 ∷ 32 ∷ 32 ∷ 32 ∷ 32 ∷ 32 ∷ 32 ∷ []

abbrev pub zeros : Element
zeros = 0 ∷ 0 ∷ 0 ∷ 0 ∷ 0 ∷ 0 ∷ 0 ∷ 0 ∷ []

-- nothing; that the data ends; that a block follows; that it is refused, 22; an element
pub data Says : Type 0 where
  skip : Says
  finish : Says
  block : Says
  wrong : Says
  gives : Element → Says

-- "In a numeric element, a code from 1 to 251 becomes the double code minus bias; 255 becomes the missing double"; "22 for .. 254 in a
-- numeric one" (02, T-05)
unfoldable pub numeric : ℕ → ℕ → Says
numeric bias code = pick (eqb code missing_code) (gives missing) (pick (eqb code spaces_code) wrong (gives (double code bias)))

-- "In a string element, a code from 1 to 251 equal to the bias becomes eight zero bytes; 254 eight spaces"; "22 for a code from 1 to 251
-- other than the bias, or 255, in a string element" (02, T-05)
unfoldable pub string : ℕ → ℕ → Says
string bias code = pick (eqb code spaces_code) (gives spaces) (pick (ltb code finish_code) (pick (eqb code bias) (gives zeros) wrong) wrong)

unfoldable pub value : ℕ → ℕ → ℕ → Says
value kind bias code = pick (eqb kind numeric_kind) (numeric bias code) (string bias code)

-- "253 takes the next 8-byte block, 0 is skipped. After 252 no byte is taken and no code acts." (02, T-05)
unfoldable pub says : ℕ → ℕ → ℕ → Says
says kind bias code = pick (eqb code 0) skip (pick (eqb code finish_code) finish (pick (eqb code block_code) block (value kind bias code)))

-- ---- 2. a whole stream

-- reading stops for good: a 252 has acted; 22 at this place; 7 (02, T-05)
pub data Stop : Type 0 where
  ended : Stop
  bad : ℕ → Stop
  full : Stop

-- Why reading goes no further: in a group of which these codes are there; at a 253, at this place, with this code, these codes behind it in
-- its group, and of whose block these bytes are there; or it stops.
pub data Why : Type 0 where
  in_group : List ℕ → Why
  in_block : ℕ → ℕ → List ℕ → List ℕ → Why
  stop : Stop → Why

-- the elements, the number of bytes taken, the bytes behind them, and why it goes no further
pub data Meaning : Type 0 where
  means : List Element → ℕ → List ℕ → Why → Meaning

unfoldable pub with_element : Element → Meaning → Meaning
with_element e (means es q r w) = means (e ∷ es) q r w

module _ (kinds : List ℕ) (bias : ℕ) where
  -- the kind of the element number n
  abbrev pub kind_of : ℕ → ℕ
  kind_of n = get_or kinds (n % length kinds) 0

  -- The codes of a group (004, Data Record: eight codes, then the blocks of those that need one, in order), the first of them at the place p; n elements and q bytes stand before, the bytes s follow; `next` is the next group.
  unfoldable pub codes : (ℕ → ℕ → List ℕ → Meaning) → List ℕ → ℕ → ℕ → ℕ → List ℕ → Meaning
  codes next [] n p q s = next n q s
  codes next (c ∷ cs) n p q s = elim (says (kind_of n) bias c) [
    | skip ↦ codes next cs n (p + 1) q s
    | finish ↦ means [] q s (stop ended)
    | wrong ↦ means [] q s (stop (bad p))
    | gives e ↦ with_element e (codes next cs (n + 1) (p + 1) q s)
    | block ↦ elim (leb 8 (length s)) [
      | true ↦ with_element (take 8 s) (codes next cs (n + 1) (p + 1) (q + 8) (drop 8 s))
      | false ↦ means [] (q + length s) [] (in_block p c cs s)
    ]
  ]

  -- groups from the place q on, at most f of them
  unfoldable pub groups : ℕ → ℕ → ℕ → List ℕ → Meaning
  groups zero n q s = means [] q s (in_group [])
  groups (suc f) n q s = elim (leb 8 (length s)) [
    | true ↦ codes (groups f) (take 8 s) n q (q + 8) (drop 8 s)
    | false ↦ means [] (q + length s) [] (in_group s)
  ]

  -- the byte too many is there: 7 if it is needed
  unfoldable pub too_many : List ℕ → Meaning → Meaning
  too_many more (means es q r (in_group g)) = means es q (r ++ more) (stop full)
  too_many more (means es q r (in_block p c cs k)) = means es q (r ++ more) (stop full)
  too_many more (means es q r (stop w)) = means es q (r ++ more) (stop w)

  unfoldable pub within : List ℕ → Meaning
  within s = groups (suc (length s)) 0 0 s

  unfoldable pub meaning : List ℕ → Meaning
  meaning s = pick (leb (length s) limit) (within s) (too_many (drop limit s) (within (take limit s)))
