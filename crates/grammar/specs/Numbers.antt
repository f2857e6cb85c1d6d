-- Which number a refusal has: document 01, "Refusal numbers", with the words of each row.
use Rattle.std.specs.Prelude.{ℕ}
use Rattle.sizes.specs.Basics.{among, pick}
use Rattle.grammar.specs.Layout.{Test, any_number, the_number, a_version, a_bool, at_most, one_of, one_of_but, a_color}

-- the number that a broken test gets, for the number n that breaks it. (Nothing breaks the first.)
unfoldable pub refusal : Test → ℕ → ℕ
unfolding among pick
refusal any_number n = 0
-- "a fixed byte, fixed number, mark or area index differs"
refusal (the_number k) n = 3
-- "version not 3 (look: not 00 or 02)"
refusal (a_version ks) n = 4
-- "a bool neither 0 nor 1"
refusal a_bool n = 5
-- "a limit passed", "at the count for dimensions, footnotes and cells"; a look's shading
refusal (at_most k) n = 7
-- a mark that is none of those allowed
refusal (one_of ks) n = 3
-- likewise; 4 for one that only another version has (document 02, T-03)
refusal (one_of_but ks others) n = pick (among n others) 4 3
-- "look: a color's high byte not 0"
refusal a_color n = 14

-- "a field doesn't fit in the input or its region"
abbrev pub too_short : ℕ
too_short = 2

-- a zero byte inside a string, at its first length byte (document 02, T-06)
abbrev pub zero_byte : ℕ
zero_byte = 18

-- a run of optional bytes with nothing after it
abbrev pub differs : ℕ
differs = 3

-- "a region's content ends early"
abbrev pub ends_early : ℕ
ends_early = 6

-- "a limit passed", "at the first byte of a Value or category that is too deep"
abbrev pub limit_passed : ℕ
limit_passed = 7
