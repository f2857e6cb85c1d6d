-- V2Styles goes by the version.
use mathlib.Core.Path.{◌≡◌, sym}
use mathlib.Core.Bool.{Bool, true, false, false≢true}
use mathlib.Core.List.{List}
use Prim.Native.Nat.{ℕ}
use Rattle.layout.specs.Step.{Step}
use Rattle.layout.specs.Steps.Chain.{empty_of}
use Rattle.look_rules.specs.StyleRule.{V2StylesRule, V2StylesIfRule}
use Rattle.look_rules.specs.Checks.{ChecksTo}
use Rattle.look_rules.proofs.Laws.Walk.{of_reads}

pub with_v2 : (b : Bool) {s : List ℕ} {st r : Step} → b ≡ true → ChecksTo V2StylesRule s st r → ChecksTo (V2StylesIfRule b) s st r
with_v2 true e h = h
with_v2 false e h = absurd (false≢true e)

pub without_v2 : (b : Bool) {s : List ℕ} {st : Step} → b ≡ false → ChecksTo (V2StylesIfRule b) s st st
without_v2 true e = absurd (false≢true (sym e))
without_v2 false e = of_reads empty_of
