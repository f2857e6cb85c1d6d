use native.Mathlib.Omega.{arith}
use mathlib.Core.Path.{refl}
use lib.ListN.{length-set}
use Rattle.codepages.specs.Laws.Passes.{fits, wrote}
use Rattle.codepages.specs.Laws.Pairs.{pair_fits, pair_wrote}
use Rattle.codepages.proofs.Pages.{index_below, ready_some, ready_point}
use Rattle.codepages.proofs.entries.ToUtf8Way.store_one.Goals as goal

pub bounds-out-w : goal.bounds-out-w
bounds-out-w c =
    let a = c.args in
    omega (arith, pair_fits _ a.input.now a.i a.out.now a.w _ _ (index_below a.self.now.page) c.if-i-input.true refl c.first_of.ensures.1 c.entry-e.ensures c.if-e-lt2048.true c.requires.ready)

pub bounds-out-w-then-i-input : goal.bounds-out-w-then-i-input
bounds-out-w-then-i-input c =
    let a = c.args in
    simp length-set (pair_fits _ a.input.now a.i a.out.now a.w _ _ (index_below a.self.now.page) c.if-i-input.true refl c.first_of.ensures.1 c.entry-e.ensures c.if-e-lt2048.true c.requires.ready)

pub returns-then-i-input : goal.returns-then-i-input
returns-then-i-input c =
    let a = c.args in
    rw c.first_of.ensures.0 (pair_wrote _ a.input.now a.i a.out.now a.w _ _ (index_below a.self.now.page) c.if-i-input.true refl c.first_of.ensures.1 c.entry-e.ensures c.if-e-lt2048.true c.requires.ready)

pub unwrap-c-requires : goal.unwrap-c-requires
unwrap-c-requires c = let r = c.requires in ready_some (index_below c.args.self.now.page) r.inside r.ready _ c.code_point.ensures

pub put-requires : goal.put-requires
put-requires c =
    let r = c.requires in
    let d = ready_point (index_below c.args.self.now.page) r.inside r.ready _ _ c.unwrap-c.ensures c.code_point.ensures in
    (fits r.ready d.1, d.0)

pub returns : goal.returns
returns c =
    let r = c.requires in
    let d = ready_point (index_below c.args.self.now.page) r.inside r.ready _ _ c.unwrap-c.ensures c.code_point.ensures in
    rw c.put.ensures.1 (wrote d.1 (omega arith) c.put.ensures.0)
