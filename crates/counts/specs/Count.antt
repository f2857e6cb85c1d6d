-- What a cell counts as (document 02, T-01), by the form of its Value and the bits of its double: IEEE 754's binary64 is a sign, 11 bits of
-- exponent and 52 of fraction.
use Rattle.std.specs.Prelude.{◌&&◌, [], ◌∷◌, ℕ, ◌+◌, ◌-◌, ◌/◌, ◌%◌, ◌^◌, eqb, leb, ltb}
use Rattle.sizes.specs.Basics.{pick, among}
use Rattle.counts.specs.declared.Kind.{Kind}
use Rattle.counts.specs.declared.Kind.TheVariants.{Text, Missing, Number, Bad}

-- "A double equal to minus the largest finite one is missing"
abbrev pub missing_bits : ℕ
missing_bits = 0xffefffffffffffff

-- "a whole number from 0 to 4,294,967,295": what no count is
abbrev pub no_count : ℕ
no_count = 2 ^ 32

abbrev pub exponent : ℕ → ℕ
exponent bits = bits % 2 ^ 63 / 2 ^ 52

-- the fraction after a leading 1: a number with the exponent e, from 1 to 2046, is this times 2 ^ (e - 1075)
abbrev pub significand : ℕ → ℕ
significand bits = 2 ^ 52 + bits % 2 ^ 52

-- from 1 to below 2 ^ 32 the exponent is from 1023 to 1054; then the number is the significand over this power, if that leaves no fraction
abbrev pub divisor : ℕ → ℕ
divisor bits = 2 ^ (1075 - exponent bits)

-- the count; "minus zero is 0"
unfoldable pub count : ℕ → ℕ
count bits =
    pick (eqb (bits % 2 ^ 63) 0) 0
    (pick (ltb bits (2 ^ 63) && leb 1023 (exponent bits) && leb (exponent bits) 1054 && eqb (significand bits % divisor bits) 0)
    (significand bits / divisor bits) no_count)

-- what a cell is here, by its form and the bits of its double: "Value forms 01 and 02 count; others are counted as text cells"; a double may be
-- "missing, counted apart and no number here"; "Every other double there must be a whole number from 0 to 4,294,967,295"
abbrev pub count_kind : ℕ → Kind
count_kind n = pick (ltb n no_count) (Number n) Bad

abbrev pub double_kind : ℕ → Kind
double_kind bits = pick (eqb bits missing_bits) Missing (count_kind (count bits))

unfoldable pub kind : ℕ → ℕ → Kind
kind form bits = pick (among form (1 ∷ 2 ∷ [])) (double_kind bits) Text
