-- Runs of bytes under 128.
use Rattle.std.specs.Prelude.{ℕ, ◌+◌, ◌-◌, ◌≤◌, ◌<◌, List, length, get_or}
use Rattle.convert.specs.Pages.{ascii}

-- bytes that are stored together
abbrev pub block : ℕ
block = 64

-- the n bytes at place i are under 128
pub record Ascii (u : List ℕ) (i n : ℕ) : Type 0 where
  pub under : (j : ℕ) → j < n → get_or u (i + j) 0 < ascii

-- from `start` to r, inside the text if `start` is
pub record Run (u : List ℕ) (start r : ℕ) : Type 0 where
  pub onward : start ≤ r
  pub inside : start ≤ length u → r ≤ length u
  pub all : Ascii u start (r - start)
