-- The pieces of the line, one after the other.
use Rattle.report.specs.Laws.Puts.{◌▹◌}
use Rattle.report.proofs.accepted.Goals as goal

pub returns : goal.returns
returns c = c.put-at.ensures ▹ c.counted-at.ensures.puts ▹ c.counted-at-2.ensures.puts ▹ c.counted.ensures.puts
