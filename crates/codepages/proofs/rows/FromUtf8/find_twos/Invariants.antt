use Rattle.std.proofs.Common.{◌-◌, ◌*◌, length}
use Rattle.pages.specs.Numbers.{index}
use Rattle.convert.specs.Convert.{from}
use Rattle.codepages.specs.Laws.Passes.{Skips}
use Rattle.codepages.proofs.rows.FromUtf8.find_twos.Given as goal

abbrev pub invariant-loop-m : goal.invariant-loop-m
invariant-loop-m l = Skips (from (index l.self.page)) l.input l.i (2 * l.m) l.m

abbrev pub decreases-loop-m : goal.decreases-loop-m
decreases-loop-m l = length l.input - l.m
