-- Lists in steps: the bytes that the lists of each step have room for.
use Rattle.std.specs.Prelude.{Bool, true, ℕ, zero, suc, leb}

-- the bytes that are read with the lists of each step
abbrev pub smallest_lists : ℕ
smallest_lists = 1024

abbrev pub small_lists : ℕ
small_lists = 2560

abbrev pub medium_lists : ℕ
medium_lists = 4608

abbrev pub large_lists : ℕ
large_lists = 8192

abbrev pub larger_lists : ℕ
larger_lists = 16384

abbrev pub largest_lists : ℕ
largest_lists = 32768

-- the lists of step 0 to 5 are these; those of every other have room for each member
unfoldable pub has_room : ℕ → ℕ → Bool
has_room zero n = leb n smallest_lists
has_room (suc zero) n = leb n small_lists
has_room (suc (suc zero)) n = leb n medium_lists
has_room (suc (suc (suc zero))) n = leb n large_lists
has_room (suc (suc (suc (suc zero)))) n = leb n larger_lists
has_room (suc (suc (suc (suc (suc zero))))) n = leb n largest_lists
has_room (suc (suc (suc (suc (suc (suc k)))))) n = true
