use Rattle.std.proofs.Common.{sym, ◌∙◌, arith}
use Rattle.cases.specs.Steps.{firsts}
use Rattle.cases.specs.Laws.Loop.{length_firsts, get_d_firsts}
use Rattle.cases_words.proofs.Laws.Arrays.{none_set, one_set, all_set}
use Rattle.cases_words.proofs.words.widened.Goals as goal

pub loop-i-init : goal.loop-i-init
loop-i-init c = none_set (firsts 256 c.args.kinds.now)

pub loop-i-preserved : goal.loop-i-preserved
loop-i-preserved c =
    let l = c.loop-i in
    let k = c.args.kinds.now in
    one_set (firsts 256 k) l.words l.i _ (length_firsts 256 k) (omega arith) l.invariant (c.from.ensures ∙ sym (get_d_firsts 256 k l.i (omega arith)))

pub returns : goal.returns
returns c = let l = c.loop-i in let k = c.args.kinds.now in all_set (firsts 256 k) l.words l.i (length_firsts 256 k) (omega arith) (omega arith) l.invariant
