use Rattle.convert.specs.Laws.Places.{rows_of}
use Rattle.codepages.proofs.rows.FromUtf8.new.Goals as goal
use Rattle.codepages.proofs.rows.FromUtf8.new.Goals.{in-Windows1250, in-Windows1251, in-Windows1252}

pub invariant_of-result : goal.invariant_of-result
unfolding rows_of
invariant_of-result c = record {
  are = elim c.match-page.branch [
    | in-Windows1250 w ↦ rw (w.result-is, w.in-Windows1250.is)
    | in-Windows1251 w ↦ rw (w.result-is, w.in-Windows1251.is)
    | in-Windows1252 w ↦ rw (w.result-is, w.in-Windows1252.is)
  ];
}
