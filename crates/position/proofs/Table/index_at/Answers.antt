use Rattle.std.proofs.Common.{◌≡◌, length, refl, sym, ◌∙◌, arith}
use lib.ListN.{get_or-replicate}
use Rattle.sizes.specs.Sizes.{most_dimensions}
use Rattle.grammar.specs.RecordWords.{word}
use Rattle.position.specs.Axes.{position_on}
use Rattle.position.specs.Laws.Table.{down, index_down}
use Rattle.position.specs.Laws.Accepted.{no_refusal, first_small, layers, rows, columns}
use Rattle.position.proofs.Steps.{one_dimension, some_cell}
use Rattle.position.proofs.Table.index_at.Goals as goal

pub store_coordinates-requires : goal.store_coordinates-requires
store_coordinates-requires c =
    let t = c.args.self.now in
    let x = no_refusal _ _ _ _ _ t.accepted in
    (x.few, refl, rw c.columns.ensures (columns x 0 (some_cell x _ c.requires)))

pub store_coordinates-requires-2 : goal.store_coordinates-requires-2
store_coordinates-requires-2 c =
    let t = c.args.self.now in
    let x = no_refusal _ _ _ _ _ t.accepted in
    let n = c.store_coordinates.ensures.long in
    (omega (arith, x.few, n), n, rw c.rows.ensures (rows x 0 (some_cell x _ c.requires)))

pub store_coordinates-requires-3 : goal.store_coordinates-requires-3
store_coordinates-requires-3 c =
    let t = c.args.self.now in
    let x = no_refusal _ _ _ _ _ t.accepted in
    let n = c.store_coordinates-2.ensures.long ∙ c.store_coordinates.ensures.long in
    (omega (arith, x.few, n), n, rw c.layers.ensures (layers x 0 (some_cell x _ c.requires)))

pub loop-i-init : goal.loop-i-init
unfolding position_on down
loop-i-init c = refl

pub overflow_mul-k : goal.overflow_mul-k
unfolding word
overflow_mul-k c =
    let l = c.loop-i in
    let x = no_refusal _ _ _ _ _ c.args.self.now.accepted in
    let e = one_dimension x (rw c.columns.ensures at c.store_coordinates.ensures) (rw c.rows.ensures at c.store_coordinates-2.ensures) (rw c.layers.ensures at c.store_coordinates-3.ensures) c.requires l.i (omega arith) (get_or-replicate most_dimensions l.i 0 0 (omega (arith, x.few))) l.invariant c.from.ensures in
    omega (arith, e.1)

pub bounds-xs-i : goal.bounds-xs-i
bounds-xs-i c = let x = no_refusal _ _ _ _ _ c.args.self.now.accepted in omega (arith, x.few)

pub overflow_add-k : goal.overflow_add-k
unfolding word
overflow_add-k c =
    let l = c.loop-i in
    let x = no_refusal _ _ _ _ _ c.args.self.now.accepted in
    let e = one_dimension x (rw c.columns.ensures at c.store_coordinates.ensures) (rw c.rows.ensures at c.store_coordinates-2.ensures) (rw c.layers.ensures at c.store_coordinates-3.ensures) c.requires l.i (omega arith) (get_or-replicate most_dimensions l.i 0 0 (omega (arith, x.few))) l.invariant c.from.ensures in
    omega (arith, e.1)

pub loop-i-preserved : goal.loop-i-preserved
unfolding word
loop-i-preserved c =
    let l = c.loop-i in
    let x = no_refusal _ _ _ _ _ c.args.self.now.accepted in
    (one_dimension x (rw c.columns.ensures at c.store_coordinates.ensures) (rw c.rows.ensures at c.store_coordinates-2.ensures) (rw c.layers.ensures at c.store_coordinates-3.ensures) c.requires l.i (omega arith) (get_or-replicate most_dimensions l.i 0 0 (omega (arith, x.few))) l.invariant c.from.ensures).0

pub overflow_cast-result : goal.overflow_cast-result
overflow_cast-result c =
    let l = c.loop-i in
    let f = first_small (no_refusal _ _ _ _ _ c.args.self.now.accepted) _ c.requires l.i (omega arith) in
    omega (arith, l.invariant, f)

pub returns : goal.returns
returns c =
    let l = c.loop-i in
    let z : l.i ≡ length c.args.self.now.ns.now = omega arith in
    (rw z at l.invariant) ∙ sym (index_down _ _ _)
