use Rattle.std.proofs.Common.{◌≡◌, ◌-◌, ◌≤◌, ◌<◌, ◌^◌, suc, length, refl, arith}
use Rattle.std.proofs.lemmas.Result.{err_from_is_err_and}
use Rattle.sizes.specs.Sizes.{most_nodes}
use Rattle.table.specs.Laws.Heads.{head_off}
use Rattle.table.specs.Laws.Nodes.{walking, walks_on, walks_off, walks_to, stored, not_stored, too_deep, one_too_many, no_head, with_head}
use Rattle.table.proofs.+below_categories_category.Goals as goal
use Rattle.table.proofs.+below_categories_category.Goals.{category-then-level-eq0-via-then-level-eq0, category-then-level-eq0-via-else-level-eq0+then-from-ge-MOST_NODES}

pub below-returns-then-count-eq0 : goal.below-returns-then-count-eq0
below-returns-then-count-eq0 t c =
    let a = c.args in
    let few : a.from.used ≤ most_nodes = omega arith in
    walks_to _ _ _ _ _ _ _ _ _ (walking a.member.version a.level.depth a.level.dimension a.level.parent a.member.bytes.now a.count a.from.at a.from.used a.nodes.now few) (omega arith)

pub categories-loop-init : goal.categories-loop-init
categories-loop-init t c = (refl, (walking _) _ _ _ _ _ _ _ _ (omega arith))

pub categories-returns-in_err-reached : goal.categories-returns-in_err-reached
categories-returns-in_err-reached t c =
    let p = err_from_is_err_and c.from_residual.result c.from_residual.ensures.1 in
    rw (p.1, p.2) (walks_off _ _ _ _ _ _ _ _ _ c.loop.invariant.1 (omega arith) (rw c.in_err-reached.was at c.category.ensures))

pub categories-loop-preserved : goal.categories-loop-preserved
categories-loop-preserved t c =
    (omega arith, walks_on _ _ _ _ _ _ _ _ _ c.loop.invariant.1 (omega arith) (rw c.in_ok-reached.was at c.category.ensures))

pub categories-returns : goal.categories-returns
categories-returns t c = walks_to _ _ _ _ _ _ _ _ _ c.loop.invariant.1 (omega arith)

pub category-returns-then-level-eq0 : goal.category-returns-then-level-eq0
category-returns-then-level-eq0 t c =
    elim c.then-level-eq0.branch [
      | category-then-level-eq0-via-then-level-eq0 w ↦ rw w.if-level-eq0.true (too_deep _ 0 _ _ _ _ _ _)
      | category-then-level-eq0-via-else-level-eq0+then-from-ge-MOST_NODES w ↦
          let a = c.args in
          let e : a.level.depth ≡ suc (a.level.depth - 1) = omega (arith, w.if-level-eq0.false) in
          rw e (one_too_many _ (a.level.depth - 1) a.member.bytes.now a.level.dimension a.level.parent a.from.at a.from.used a.nodes.now w.if-from-ge-MOST_NODES.true)
    ]

pub category-returns-in_err-start : goal.category-returns-in_err-start
category-returns-in_err-start t c =
    let a = c.args in
    let p = err_from_is_err_and c.from_residual.result c.from_residual.ensures.1 in
    let e : a.level.depth ≡ suc (a.level.depth - 1) = omega arith in
    rw (p.1, p.2, e) (no_head _ (a.level.depth - 1) a.member.bytes.now a.level.dimension a.level.parent a.from.at a.from.used a.nodes.now c.if-from-ge-MOST_NODES.false (head_off _ (rw c.in_err-start.was at c.head.ensures) refl))

pub category-returns-in_err-end : goal.category-returns-in_err-end
category-returns-in_err-end t c =
    let a = c.args in
    let p = err_from_is_err_and c.from_residual-in_err-end.result c.from_residual-in_err-end.ensures.1 in
    let e : a.level.depth ≡ suc (a.level.depth - 1) = omega arith in
    let small : length a.member.bytes.now < 2 ^ 32 = omega (arith, a.member.short) in
    rw (p.1, p.2, e) (with_head _ (a.level.depth - 1) a.member.bytes.now a.level.dimension a.level.parent a.from.at a.from.used a.nodes.now small c.if-from-ge-MOST_NODES.false (rw c.in_ok-start.was at c.head.ensures) refl
    (rw (c.in_err-end.was, c.children.ensures) at c.below.ensures) not_stored)

pub category-returns : goal.category-returns
category-returns t c =
    let a = c.args in
    let e : a.level.depth ≡ suc (a.level.depth - 1) = omega arith in
    let small : length a.member.bytes.now < 2 ^ 32 = omega (arith, a.member.short) in
    rw e (with_head _ (a.level.depth - 1) a.member.bytes.now a.level.dimension a.level.parent a.from.at a.from.used a.nodes.now small c.if-from-ge-MOST_NODES.false (rw c.in_ok-start.was at c.head.ensures) refl
    (rw (c.in_ok-end.was, c.children.ensures) at c.below.ensures) (stored (rw (c.kind.ensures, c.word.ensures, c.word-2.ensures, c.length.ensures) at c.put.ensures)))
