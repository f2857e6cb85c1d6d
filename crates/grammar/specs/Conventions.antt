-- The names of source document 003, "Binary Format Conventions", in their order, for the layouts that they stand for.
use Rattle.std.specs.Prelude.{List, [], ◌∷◌, ℕ, eqb}
use Rattle.sizes.specs.Basics.{pick}
use Rattle.grammar.specs.Layout.{Order, little, big, Test, any_number, the_number, a_bool, at_most, one_of, one_of_but, no_zero, exact, Layout, empty, number, string, times, leading, region}

-- a number alone
abbrev pub field : Order → ℕ → Test → Layout
field o w test = number o w test (λ _. empty)

-- 00, 01, ..., ff
abbrev pub fixed : ℕ → Layout
fixed b = field little 1 (the_number b)

-- i0, i1, ...
abbrev pub i : ℕ → Layout
i n = field little 4 (the_number n)

-- ib0, ib1, ...
abbrev pub ib : ℕ → Layout
ib n = field big 4 (the_number n)

abbrev pub byte : Layout
byte = field little 1 any_number

abbrev pub bool : Layout
bool = field little 1 a_bool

abbrev pub int16 : Layout
int16 = field little 2 any_number

abbrev pub be16 : Layout
be16 = field big 2 any_number

abbrev pub int32 : Layout
int32 = field little 4 any_number

abbrev pub be32 : Layout
be32 = field big 4 any_number

abbrev pub int64 : Layout
int64 = field little 8 any_number

abbrev pub be64 : Layout
be64 = field big 8 any_number

-- the bits of a floating-point number are kept as they are (document 01)
abbrev pub double : Layout
double = int64

abbrev pub float : Layout
float = int32

-- v3(X): "In a version 3 `.bin` member, X; in version 1, nothing"
abbrev pub v3 : ℕ → Layout → Layout
v3 version x = pick (eqb version 3) x empty

-- `string` itself is a layout over the order and the width of its length. A member's strings hold no zero byte (document 02, T-06)
abbrev pub lestring : Layout
lestring = string little 4 no_zero

abbrev pub bestring : Layout
bestring = string big 4 no_zero

-- b? X, for a byte b: where b is absent, X does not begin with it (document 01, our rule)
abbrev pub mark : ℕ → Layout → Layout
mark b x = leading b 1 x

-- int32[n] X*[n], with a limit of document 01
abbrev pub at_most_many : ℕ → Layout → Layout
at_most_many limit x = number little 4 (at_most limit) (λ n. times n x)

-- int32[n] X*[n]
abbrev pub many : Layout → Layout
many x = number little 4 any_number (λ n. times n x)

-- be32[n] X*[n]
abbrev pub bemany : Layout → Layout
bemany x = number big 4 any_number (λ n. times n x)

-- a X | b Y, for two bytes a and b
abbrev pub either : ℕ → Layout → ℕ → Layout → Layout
either a x b y = number little 1 (one_of (a ∷ b ∷ [])) (λ n. pick (eqb n a) x y)

-- the same without the bytes that only other versions have
abbrev pub either_but : List ℕ → ℕ → Layout → ℕ → Layout → Layout
either_but others a x b y = number little 1 (one_of_but (a ∷ b ∷ []) others) (λ n. pick (eqb n a) x y)

-- 31 X | 58
abbrev pub if31 : Layout → Layout
if31 x = either 0x31 x 0x58 empty

-- A | B | ..., each known by its first byte
abbrev pub choose : List (ℕ × Layout) → ℕ → Layout
choose [] n = empty
choose (c ∷ cs) n = pick (eqb n c.0) c.1 (choose cs n)

abbrev pub keys : List (ℕ × Layout) → List ℕ
keys [] = []
keys (c ∷ cs) = c.0 ∷ keys cs

-- without those whose first byte only other versions have
abbrev pub alternatives_but : List ℕ → List (ℕ × Layout) → Layout
alternatives_but others cs = number little 1 (one_of_but (keys cs) others) (choose cs)

-- count(X), becount(X)
abbrev pub count : Layout → Layout
count x = region little exact x

abbrev pub becount : Layout → Layout
becount x = region big exact x
