use Rattle.std.proofs.Common.{sym, arith}
use Rattle.grammar.specs.Laws.Table.Words.{sets_past}
use Rattle.table.proofs.Stores.{next_set, none_past}
use Rattle.table.proofs.put.Goals as goal
use Rattle.table.proofs.put.Goals.{then-i-k, else-i-k}

pub loop-k-preserved : goal.loop-k-preserved
loop-k-preserved g c = let a = c.args in rw c.loop-k.invariant (next_set a.values.now a.words.now a.i c.loop-k.k (omega arith))

pub loop-k-then-i-words-preserved : goal.loop-k-then-i-words-preserved
loop-k-then-i-words-preserved g c =
    let a = c.args in
    let l = c.loop-k-then-i-words in
    elim c.if-i-k.branch [
      | then-i-k w ↦ rw (w.words-is, l.invariant) (next_set a.values.now a.words.now a.i l.k (omega arith))
      | else-i-k w ↦ rw (w.words-is, l.invariant) (none_past a.values.now a.words.now a.i l.k (omega arith) (omega (arith, w.if-i-k.false)))
    ]

pub returns-else-i-words : goal.returns-else-i-words
returns-else-i-words g c = sym (sets_past c.args.values.now c.args.words.now c.args.i (omega arith))
