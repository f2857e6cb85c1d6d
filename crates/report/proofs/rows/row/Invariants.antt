-- After i turns the first i words are put.
use Prim.Native.Nat.{◌+◌, ◌*◌, ◌≤◌}
use mathlib.Core.Path.{◌≡◌}
use lib.ListN.{length, take}
use Rattle.report.specs.Text.{Puts}
use Rattle.report.specs.Lines.{words_of}
use Rattle.report.proofs.rows.row.Given as goal

abbrev pub invariant-loop-word : goal.invariant-loop-word
invariant-loop-word l =
    (l.word-index ≤ length l.words) × (length l.out ≡ length l.initial.out) × (l.p ≤ l.initial.p + 11 * l.word-index)
    × Puts (words_of (take l.word-index l.words)) l.initial.out l.initial.p l.out l.p
