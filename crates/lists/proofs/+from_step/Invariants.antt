-- The step rises to 6 at most: there every member has room.
use Rattle.std.proofs.Common.{◌-◌}
use Rattle.lists.proofs.+from_step.Given as goal

abbrev pub decreases-from_step : goal.decreases-from_step
decreases-from_step g l = 6 - l.step
