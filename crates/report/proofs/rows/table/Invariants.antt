-- After i turns the first i rows are put, and the next row starts at i times its size, or at the end.
use Prim.Native.Nat.{◌+◌, ◌*◌, ◌≤◌, min}
use mathlib.Core.Path.{◌≡◌}
use lib.ListN.{length}
use Rattle.report.specs.Text.{Puts}
use Rattle.report.specs.Lines.{row_bytes, table_of}
use Rattle.report.proofs.rows.table.Given as goal

abbrev pub invariant-loop : goal.invariant-loop
invariant-loop l =
    (l.counter ≤ l.n) × (length l.out ≡ length l.initial.out) × (l.from ≡ min (l.counter * l.size) (length l.words)) × (l.p ≤ l.initial.p + l.counter * row_bytes l.name l.size)
    × Puts (table_of l.name l.size l.counter l.words) l.initial.out l.initial.p l.out l.p
