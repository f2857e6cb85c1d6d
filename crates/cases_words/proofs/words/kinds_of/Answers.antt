use Rattle.std.proofs.Common.{sym, ◌∙◌, arith}
use Rattle.cases_words.specs.StateWords.{kinds_of}
use Rattle.cases_words.proofs.Laws.Arrays.{kinds_long, kinds_word, none_set, one_set, all_set}
use Rattle.cases_words.proofs.words.kinds_of.Goals as goal

pub loop-i-init : goal.loop-i-init
loop-i-init c = none_set (kinds_of c.args.words.now)

pub loop-i-preserved : goal.loop-i-preserved
loop-i-preserved c =
    let l = c.loop-i in
    let s = c.args.words.now in
    one_set (kinds_of s) l.kinds l.i _ (kinds_long s) (omega arith) l.invariant (c.narrow.ensures ∙ rw c.word.ensures (sym (kinds_word s l.i (omega arith))))

pub returns : goal.returns
returns c = let l = c.loop-i in let s = c.args.words.now in all_set (kinds_of s) l.kinds l.i (kinds_long s) (omega arith) (omega arith) l.invariant
