-- What a member holds are bytes.
use Rattle.std.specs.Prelude.{ℕ, List, ◌<◌, get_or}
use Rattle.grammar.specs.Layout.{Bytes}
use Rattle.layout.specs.Steps.Slices.{bytes_of}

pub in_member : {s : List ℕ} → ((i : ℕ) → get_or s i 0 < 256) → Bytes s
in_member h = bytes_of _ (λ i. record { fits = h i })
