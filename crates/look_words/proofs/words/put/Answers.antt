use Rattle.std.proofs.Common.{sym, ◌∙◌, arith, length-set}
use Rattle.std.proofs.lemmas.Result.{err_from_is_err_and}
use Rattle.store.specs.Laws.Puts.{words_kept, words_next, words_short, words_end}
use Rattle.look_words.proofs.words.put.Goals as goal

pub returns-in_err-at : goal.returns-in_err-at
returns-in_err-at c =
    let p = err_from_is_err_and c.from_residual.result c.from_residual.ensures.1 in
    rw (p.1, p.2, c.in_err-at.was) record { is = sym (words_kept c.args.words.now c.args.out.now _ _) }

pub returns-then-out-at : goal.returns-then-out-at
returns-then-out-at c =
    let short = words_short c.args.words.now c.loop-i.out c.loop-i.i c.loop-i.at (omega arith) (omega arith) in
    rw c.in_ok-at.was record { is = sym short ∙ c.loop-i.invariant.1 }

pub loop-i-preserved : goal.loop-i-preserved
loop-i-preserved c = (
  length-set c.loop-i.out c.loop-i.at _ ∙ c.loop-i.invariant.0,
  sym (words_next c.args.words.now c.loop-i.out c.loop-i.i c.loop-i.at (omega arith) (omega arith)) ∙ c.loop-i.invariant.1,
)

pub returns : goal.returns
returns c =
    let end = words_end c.args.words.now c.loop-i.out c.loop-i.i c.loop-i.at (omega arith) in
    rw c.in_ok-at.was record { is = sym end ∙ c.loop-i.invariant.1 }
