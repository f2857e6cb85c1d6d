-- So many zeros as the loop has come are written.
use Rattle.std.specs.Prelude.{replicate}
use Rattle.grammar.specs.Layout.{times}
use Rattle.grammar.specs.Conventions.{fixed}
use Rattle.store.specs.Puts.{PutsPlain}
use Rattle.store.proofs.write.zeros.Given as goal

abbrev pub invariant-loop : goal.invariant-loop
invariant-loop l = PutsPlain (times l.counter (fixed 0)) (replicate l.counter (0, tt)) l.initial.buf l.initial.st l.buf l.st
