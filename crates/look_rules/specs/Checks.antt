-- What the contract of a walk by a rule says.
use Rattle.std.specs.Prelude.{◌≡◌, Bool, List, ℕ, drop}
use Rattle.layout.specs.Step.{Step}
use Rattle.std.specs.Prelude.{Result, Ok, Err}
use Rattle.refusals.specs.declared.Refusal.{Refusal}
use Rattle.refusals.specs.Numbers.{by_number}
use Rattle.sizes.specs.Basics.{pick}
use Rattle.grammar.specs.Layout.{Layout, Bytes}
use Rattle.grammar.specs.Rule.{Rule}
use Rattle.grammar.specs.Laws.Layout.Check.{check}
use Rattle.layout.specs.Reads.{forget, chain}

-- r is what reading by u in the bytes s gives after st
pub record ChecksTo {g : Layout} (u : Rule g) (s : List ℕ) (st r : Step) : Type 0 where
  pub is : Bytes s → r ≡ chain st (λ at. forget (check u (drop at s) at))

-- the same of what code has
abbrev pub Checks : {g : Layout} → Rule g → List ℕ → Result ℕ Refusal → Result ℕ Refusal → Type 0
Checks u s st r = ChecksTo u s (by_number st) (by_number r)

-- what was read, without the value
abbrev pub past : {A : Type 0} → Result (A × ℕ) Refusal → Result ℕ Refusal
past (Ok x) = Ok x.1
past (Err e) = Err e

-- r, which was read after st; or the refusal n there, where the test says so
unfoldable pub told : Step → Step → Bool → ℕ → Step
unfolding pick chain
told st r good n = pick good r (chain st (λ at. chain r (λ _. Err (n, at))))
