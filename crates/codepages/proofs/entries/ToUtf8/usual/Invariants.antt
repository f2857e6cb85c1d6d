use Rattle.std.proofs.Common.{◌≡◌, ◌+◌, ◌≤◌}
use Rattle.pages.specs.Numbers.{index}
use Rattle.convert.specs.Convert.{to}
use Rattle.codepages.specs.Laws.Passes.{Skips}
use Rattle.codepages.proofs.entries.ToUtf8.usual.Given as goal

abbrev pub invariant-loop-b : goal.invariant-loop-b
invariant-loop-b l = (l.high ≤ l.b-index) × (l.bad ≡ 0 → Skips (to (index l.self.page)) l.input l.i l.b-index (l.b-index + l.high))
