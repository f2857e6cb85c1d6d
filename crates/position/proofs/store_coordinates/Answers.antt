use Rattle.std.proofs.Common.{◌≡◌, ◌<◌, ℕ, List, [], ◌∷◌, length, drop, get_or, refl, sym, ◌∙◌, length-set, arith}
use lib.ListN.{drop_of_length-le}
use Rattle.sizes.specs.Basics.{among, pick}
use Rattle.grammar.specs.RecordWords.{word}
use Rattle.position.specs.Laws.Turned.{placed}
use Rattle.position.specs.Laws.Accepted.{Axis, axis_later}
use Rattle.position.specs.Laws.Among.{first_among}
use Rattle.position.proofs.Fronts.{n_front}
use Rattle.position.proofs.Steps.{one_down}
use Rattle.position.proofs.store_coordinates.Goals as goal

-- the first entry is a dimension of the table
inside : {ns ds rest : List ℕ} {x : ℕ} → Axis ns 0 ds → ds ≡ x ∷ rest → x < length ns
inside {rest = rest} {x = x} a f = (rw f at a).below x (first_among x rest)

-- none is left
none_left : (n : ℕ → ℕ) (k : ℕ) (xs : List ℕ) (e : ℕ) → placed n [] k xs e ≡ get_or xs e 0
unfolding placed among pick
none_left n k xs e = refl

pub bounds-xs-e : goal.bounds-xs-e
unfolding word
bounds-xs-e c =
    let l = c.loop-e in
    let h = inside l.invariant.1 (n_front c.args.axis.now l.e-index c.loop-e-test.true) in
    omega (arith, h, c.requires.0, c.requires.1)

pub loop-e-preserved : goal.loop-e-preserved
unfolding word
loop-e-preserved c =
    let l = c.loop-e in
    let f = n_front c.args.axis.now l.e-index c.loop-e-test.true in
    let x = rw f at l.invariant.1 in
    let h = inside l.invariant.1 f in (
      length-set l.xs _ _ ∙ l.invariant.0,
      axis_later (word c.args.axis.now l.e-index ∷ []) _ x,
      λ e. one_down (word c.args.ns.now) l.rest l.xs _ _ x.distinct.0 (omega (arith, h, c.requires.0, l.invariant.0)) f refl (c.from-n.ensures ∙ c.word.ensures) c.remainder.ensures c.quotient-rest.ensures e ∙ l.invariant.2 e,
    )

pub returns : goal.returns
returns c =
    let l = c.loop-e in
    let z : drop l.e-index c.args.axis.now ≡ [] = drop_of_length-le c.args.axis.now {i = l.e-index} (omega arith) in
    record { long = l.invariant.0; says = λ e. sym (none_left (word c.args.ns.now) l.rest l.xs e) ∙ (rw z at (l.invariant.2 e)) }
