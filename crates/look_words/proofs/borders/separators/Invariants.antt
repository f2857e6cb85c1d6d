-- The words of the first separators are written.
use Rattle.std.specs.Prelude.{take}
use Rattle.grammar.specs.Layout.{spell_all}
use Rattle.store.specs.Puts.{PutsWords}
use Rattle.look_words.specs.LookWords.{separator}
use Rattle.look_words.proofs.borders.separators.Given as goal

abbrev pub invariant-loop-x : goal.invariant-loop-x
invariant-loop-x l = PutsWords (spell_all separator (take l.x-index l.xs)) l.initial.out l.initial.st l.out l.st
