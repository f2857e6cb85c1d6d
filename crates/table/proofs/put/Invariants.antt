use Rattle.std.proofs.Common.{◌≡◌, take}
use Rattle.std.proofs.lemmas.List.Edits.{sets}
use Rattle.table.proofs.put.Given as goal

abbrev pub invariant-loop-k : goal.invariant-loop-k
invariant-loop-k g l = l.words ≡ sets l.initial.words l.i (take l.k l.values)

abbrev pub invariant-loop-k-then-i-words : goal.invariant-loop-k-then-i-words
invariant-loop-k-then-i-words g l = l.words ≡ sets l.initial.words l.i (take l.k l.values)
