-- What writing a look answers, and what the output then holds: document 01, "The looks" and "Refusal numbers"; document 02, T-10.
use Rattle.std.specs.Prelude.{◌≡◌, List, ℕ, length}
use Rattle.layout.specs.Step.{Step}
use Rattle.grammar.specs.Layout.{spell, Bytes}
use Rattle.layout.specs.Reads.{chain}
use Rattle.store.specs.Fields.{resolve}
use Rattle.store.specs.Check.{check}
use Rattle.store.specs.Fit.{Fit}
use Rattle.store.specs.Written.{Written}
use Rattle.store.specs.Deliver.{ending, output, answer}
use Rattle.look.specs.declared.Look.{Look}
use Rattle.look.specs.Look.{TableLook02}
use Rattle.look.specs.Values as values

-- the bytes of a look whose names lie in s: a file of version 02
unfoldable pub file : Look → List ℕ → List ℕ
file x s = spell TableLook02 (resolve TableLook02 s (values.fields x))

-- "It goes front to back, then 15": the length, or the refusal, for a look whose names lie in s and an output of that many bytes
unfoldable pub writing : Look → List ℕ → ℕ → Step
writing x s room = chain (check TableLook02 s (values.fields x) 0) (ending room)

-- each number of a look fits its bytes, as its type says
pub record Fits (x : Look) (s : List ℕ) : Type 0 where
  pub is : Fit TableLook02 s (values.fields x)

-- a call of `write_look` that answered r and left out' in the output: for a look x whose names lie in the bytes s
abbrev pub Wrote : Look → List ℕ → List ℕ → Written → List ℕ → Type 0
Wrote x s out r out' =
    (answer r ≡ writing x s (length out)) × (out' ≡ output (writing x s (length out)) (file x s) out) × Fits x s × Bytes s
