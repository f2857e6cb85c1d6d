use Rattle.members_words.specs.Laws.MembersRead.{ReadTo}
use Rattle.members_words.proofs.read_all.Given as goal

abbrev pub invariant-loop-i : goal.invariant-loop-i
invariant-loop-i l = ReadTo l.buffer l.list l.initial.answers l.initial.nodes l.initial.cells l.i l.answers l.nodes l.cells
