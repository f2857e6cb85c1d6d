use borrow.Author.Rules.{rules}
use Rattle.repeats.specs.Laws.Places.{bucket}
use Rattle.repeats.proofs.bucket.Goals as goal

pub returns : goal.returns
unfolding bucket
returns c = search rules
