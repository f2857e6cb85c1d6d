-- A count in either order, and then as many symbols.
use mathlib.Core.Path.{◌≡◌}
use mathlib.Core.Bool.{Bool, true, false}
use mathlib.Core.List.{List}
use Prim.Native.Nat.{ℕ}
use Rattle.layout.specs.Step.{Step}
use Rattle.grammar.specs.Layout.{little, big, any_number, Layout, number, times}
use Rattle.grammar.specs.Conventions.{field}
use Rattle.layout.specs.Reads.{ReadsTo, order, peek}
use Rattle.layout.specs.Steps.Numbers.{switch_of}

pub many_of : (high : Bool) {a : Layout} {s : List ℕ} {st q r : Step} {n : ℕ} → ReadsTo (times n a) s q r → n ≡ peek (order high) 4 s st
    → ReadsTo (field little 4 any_number) s st q → ReadsTo (field big 4 any_number) s st q
    → ReadsTo (number (order high) 4 any_number (λ m. times m a)) s st r
many_of true {a} e f g h = switch_of {k = λ m. times m a} e f h
many_of false {a} e f g h = switch_of {k = λ m. times m a} e f g
