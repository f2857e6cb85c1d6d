-- Fields that are those of some derivation, but for what a writer tests: each number fits its bytes, each list has its length, letters are
-- bytes, a run stands before another byte, and a region is no longer than its count can say.
use Rattle.std.specs.Prelude.{◌≡◌, List, ℕ, ◌^◌, ◌<◌, length}
use Rattle.std.proofs.Math.Option.{none, some}
use Rattle.grammar.specs.Layout.{Fill, exact, optional, open_ended, Layout, empty, number, string, ◌▸◌, times, leading, region, nothing, Bytes, All, Leads}
use Rattle.store.specs.Fields.{Text, lent, letters, FieldsIn, Fields, bytes_in, content_in}

abbrev pub FitText : Text → Type 0
FitText (lent n) = Unit {0}
FitText (letters xs) = Bytes xs

abbrev pub FitIn : {A : Type 0} (m : Fill) → (A → Type 0) → (A → List ℕ) → FieldsIn m A → Type 0
FitIn exact P bytes f = P f
FitIn optional P bytes none = Unit {0}
FitIn optional P bytes (some f) = P f × (0 < length (bytes f))
FitIn open_ended P bytes f = P f.0 × FitText f.1

abbrev pub Fit : (g : Layout) → List ℕ → Fields g → Type 0
Fit empty s f = Unit {0}
Fit (number o w test k) s f = (f.0 < 256 ^ w) × Fit (k f.0) s f.1
Fit (string o w c) s f = FitText f
Fit (a ▸ b) s f = Fit a s f.0 × Fit b s f.1
Fit (times n a) s f = (length f ≡ n) × All (Fit a s) f
Fit (leading b n a) s f = Leads b n f.0 (bytes_in a s f.1) × Fit a s f.1
Fit (region o m a) s f = (length (content_in m a s f) < 256 ^ 4) × FitIn m (Fit a s) (bytes_in a s) f
Fit nothing s f = ⊥
