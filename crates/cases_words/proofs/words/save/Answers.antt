use Rattle.store.specs.Laws.Puts.{long_words}
use Rattle.cases_words.proofs.Laws.Arrays.{state_long}
use Rattle.cases_words.proofs.Calling.{at_front}
use Rattle.cases_words.specs.StateWords.{state_words_of}
use Rattle.cases_words.proofs.words.save.Goals as goal

pub shape_of-out : goal.shape_of-out
shape_of-out c = long_words c.put_state.ensures

pub returns : goal.returns
returns c = at_front 268 (state_words_of c.args.s) _ (state_long c.args.s) c.requires c.put_state.ensures
