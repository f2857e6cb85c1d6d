use native.Mathlib.Omega.{arith}
use Rattle.codepages.specs.Laws.Blocks.{block_ready, block_wrote, block_then, block_made}
use Rattle.codepages.proofs.store_block.Goals as goal

pub returns-then-n-eq-BLOCK : goal.returns-then-n-eq-BLOCK
returns-then-n-eq-BLOCK g c =
    let a = c.args in
    let r = c.requires in
    block_wrote (g.met.W.Way.plain a.way.now) a.input.now a.i _ a.out.now a.w _ r.block_in c.leading-n.ensures r.ready r.block_out c.copy_block.ensures c.if-n-eq-BLOCK.true

pub store_one-s-requires-clause-ready : goal.store_one-s-requires-clause-ready
store_one-s-requires-clause-ready g c =
    let a = c.args in
    let r = c.requires in
    block_ready (g.met.W.Way.plain a.way.now) a.input.now a.i _ a.out.now a.w _ r.block_in c.leading-n.ensures r.ready r.block_out c.copy_block.ensures

pub overflow_add-result-2 : goal.overflow_add-result-2
overflow_add-result-2 g c =
    let a = c.args in
    let r = c.requires in
    omega (arith, r.short, block_made (g.met.W.Way.plain a.way.now) a.input.now a.i _ a.out.now a.w _ r.block_in c.leading-n.ensures r.ready r.block_out c.copy_block.ensures c.store_one-s.ensures)

pub returns : goal.returns
returns g c =
    let a = c.args in
    let r = c.requires in
    block_then (g.met.W.Way.plain a.way.now) a.input.now a.i _ a.out.now a.w _ r.block_in c.leading-n.ensures r.ready r.block_out c.copy_block.ensures c.store_one-s.ensures
