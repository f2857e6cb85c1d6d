-- The word is in the slice, or past its end, where the list has 0 too.
use Rattle.std.proofs.Common.{rules}
use Rattle.std.proofs.lemmas.Option.{unwrap_or-slice_get}
use Rattle.grammar.specs.RecordWords as spec
use Rattle.once.proofs.word.Goals as goal

pub returns : goal.returns
unfolding spec.word
returns c = search (rules, unwrap_or-slice_get)
