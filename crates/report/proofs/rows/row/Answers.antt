use mathlib.Core.Path.{◌≡◌}
use borrow.Author.Rules.{rules}
use native.Mathlib.Omega.{arith}
use lib.ListN.{take}
use lib.Seq.{take_all}
use Rattle.report.specs.Lines.{words_of}
use Rattle.report.specs.Laws.Puts.{◌▹◌, nothing}
use Rattle.report.specs.Laws.Rows.{words_suc}
use Rattle.report.proofs.rows.row.Goals as goal

pub loop-word-init : goal.loop-word-init
unfolding words_of
loop-word-init c = (omega arith, search rules, omega arith, nothing (omega arith))

pub loop-word-preserved : goal.loop-word-preserved
loop-word-preserved c =
    let ws = c.args.words.now in
    let e = words_suc ws c.loop-word.word-index (omega arith) in
    (omega arith, omega arith, omega arith, rw e (c.loop-word.invariant.3 ▹ c.spaced-p.ensures.puts))

pub returns : goal.returns
returns c =
    let a = c.args in
    let e : take c.loop-word.word-index a.words.now ≡ a.words.now = take_all c.loop-word.word-index a.words.now (omega arith) in
    record { puts = c.put-p.ensures ▹ rw e at c.loop-word.invariant.3 ▹ c.put.ensures; upper_bound = omega arith }
