use Rattle.std.proofs.Common.{◌≡◌, false, ap, eqb, eq-eqb, ne_eqb}
use Rattle.std.proofs.lemmas.Result.{err_from_is_err_and}
use Rattle.grammar.specs.Value.{ValueMod, Modifiers}
use Rattle.refusals.specs.Numbers.{by_number}
use Rattle.layout.specs.Reads.{ReadsTo}
use Rattle.layout.specs.Steps.{reads}
use Rattle.layout.specs.Steps.Chain.{from_next, from_refused, in_same}
use Rattle.value.proofs.modifier.value_mod.Goals as goal

pub returns-then-x-eq88 : goal.returns-then-x-eq88
unfolding ValueMod
returns-then-x-eq88 c = let e : eqb c.peek-x.result 0x31 ≡ false = ap (λ x. eqb x 0x31) c.if-x-eq88.true in search reads depth 20

pub returns-in_ok-at : goal.returns-in_ok-at
unfolding ValueMod
returns-in_ok-at c =
    let e = eq-eqb _ _ c.if-x-eq49.true in
    let m : ReadsTo Modifiers c.args.s.now _ _ = from_next (ap by_number c.in_ok-at.was) (in_same c.whole.ensures c.modifiers_at.ensures) in
    search (reads, m) depth 20

pub returns-in_err-at : goal.returns-in_err-at
unfolding ValueMod
returns-in_err-at c =
    let e = eq-eqb _ _ c.if-x-eq49.true in
    let p = err_from_is_err_and c.from_residual.result c.from_residual.ensures.1 in
    let m : ReadsTo Modifiers c.args.s.now _ _ = from_refused (ap by_number c.in_err-at.was) in
    rw (p.1, p.2) (search (reads, m) depth 20)

pub returns-else-x-eq49 : goal.returns-else-x-eq49
unfolding ValueMod
returns-else-x-eq49 c = let e = ne_eqb _ _ c.if-x-eq49.false in search reads depth 20
