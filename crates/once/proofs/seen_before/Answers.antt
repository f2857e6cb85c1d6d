use Rattle.std.proofs.Common.{eqb, ◌*◌, ◌∙◌, refl, arith, rules, tests}
use Rattle.std.proofs.lemmas.Iterator.{YieldsList-from_range}
use Rattle.std.proofs.lemmas.Iterator.Search.{any_from_yields_List}
use Rattle.grammar.specs.RecordWords as spec
use Rattle.once.proofs.Walk.{among_firsts}
use Rattle.once.proofs.seen_before.Goals as goal

pub returns : goal.returns
returns c =
    let step = c.min-step.result in
    let ws = c.args.words.now in
    let found = any_from_yields_List (λ i. eqb c.args.x (spec.word ws (step * i))) _ _ c.any.result c.any.ensures.ran (YieldsList-from_range 0 c.min.result c.min.result refl (omega arith)) (λ x b q h. search (rules, tests)) in
    rw (← c.min-step.ensures, ← c.min.ensures) (found ∙ among_firsts step ws c.args.x c.min.result)
