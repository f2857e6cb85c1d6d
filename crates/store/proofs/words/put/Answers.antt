use Rattle.std.proofs.Common.{sym, ◌+◌, ◌≤◌, length, arith}
use Rattle.std.proofs.lemmas.Result.{err_from_is_err_and}
use Rattle.store.specs.Laws.Puts.{words_kept, words_land}
use Rattle.store.proofs.Parts.{put_all}
use Rattle.store.proofs.words.put.Goals as goal

pub returns-in_err-at : goal.returns-in_err-at
returns-in_err-at c =
    let p = err_from_is_err_and c.from_residual.result c.from_residual.ensures.1 in
    rw (p.1, p.2, c.in_err-at.was) record { is = sym (words_kept c.args.words.now c.args.out.now _ _) }

pub returns-then-words-out : goal.returns-then-words-out
returns-then-words-out c =
    let a = c.args in
    let at = c.in_ok-at.at in
    let inside : at + length a.words.now ≤ length a.out.now = omega arith in
    let there = put_all a.out.now at a.words.now c.copy_from_slice.new.self inside c.copy_from_slice.ensures.after in
    rw c.in_ok-at.was record { is = rw there (sym (words_land a.words.now a.out.now at inside)) }
