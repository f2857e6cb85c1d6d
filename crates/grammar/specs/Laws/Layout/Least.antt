-- How many bytes a layout takes at least, as far as its numbers show.
use Rattle.std.specs.Prelude.{ℕ, ◌+◌, ◌≤◌, length}
use Rattle.std.proofs.Common.{arith, length-append}
use Rattle.grammar.specs.Layout.{Layout, empty, number, string, ◌▸◌, times, leading, region, nothing, Tree, spell, Valid}
use Rattle.grammar.specs.Laws.Layout.{digits_length}

-- a number takes its own bytes, and a run of bytes with what comes after it one; the rest is not counted
unfoldable pub least : Layout → ℕ
least empty = 0
least (number o w test k) = w
least (string o w c) = 0
least (a ▸ b) = least a + least b
least (times n a) = 0
least (leading b n a) = 1
least (region o f a) = 0
least nothing = 0

pub least_spelt : (g : Layout) (t : Tree g) → Valid g t → least g ≤ length (spell g t)
unfolding least spell
least_spelt empty t v = omega arith
least_spelt (number o w test k) t v = rw (length-append, digits_length) (omega arith)
least_spelt (string o w c) t v = omega arith
least_spelt (a ▸ b) t v = rw length-append (omega (arith, least_spelt a t.0 v.0, least_spelt b t.1 v.1))
least_spelt (times n a) t v = omega arith
least_spelt (leading b n a) t v = rw length-append (omega (arith, v.0.some_byte))
least_spelt (region o f a) t v = omega arith
least_spelt nothing t v = absurd v
