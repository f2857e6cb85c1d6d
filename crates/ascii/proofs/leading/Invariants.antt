use Rattle.std.proofs.Common.{ℕ, ◌≤◌, ◌<◌, get_or}
use Rattle.convert.specs.Pages.{ascii}
use Rattle.ascii.specs.Runs.{block}
use Rattle.ascii.proofs.leading.Given as goal

abbrev pub invariant-loop-j : goal.invariant-loop-j
invariant-loop-j l = (l.n ≤ block) × ((m : ℕ) → m < l.j → m < l.n → get_or l.part m 0 < ascii)
