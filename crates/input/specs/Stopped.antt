-- What an error in the midst of reading leaves.
use Rattle.std.specs.Prelude.{ℕ, List, take}
use Rattle.std.specs.Io.KnownBytes.{Consumes}
use Rattle.std.specs.declared.option.Option.{Option}

-- what the reader gave of its known bytes stands at the front of the buffer
abbrev pub Stopped : Option (List ℕ) → Option (List ℕ) → List ℕ → Type 0
Stopped old new buf = (n : ℕ) × Consumes old new (take n buf)
