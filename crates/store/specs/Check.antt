-- What writing by a layout answers where the buffer is long enough: the place after the fields, or the first refusal.
use Rattle.std.proofs.Math.Option.{none, some}
use Rattle.std.specs.Prelude.{List, [], ◌∷◌, ℕ, ◌+◌, length, eqb}
use Rattle.layout.specs.Step.{Step}
use Rattle.std.specs.Prelude.{Ok, Err}
use Rattle.sizes.specs.Basics.{pick}
use Rattle.grammar.specs.Layout.{Fill, exact, optional, open_ended, Layout, empty, number, string, ◌▸◌, times, leading, region, nothing}
use Rattle.layout.specs.Reads.{chain, verdict}
use Rattle.store.specs.Fields.{FieldsIn, Fields, text_of}
use Rattle.store.specs.Put.{text_verdict, free_verdict, run_verdict}

-- the place of a position or of a refusal
abbrev pub place_of : Step → ℕ
place_of (Ok at) = at
place_of (Err (n, p)) = p

-- past a field of n bytes, or its refusal c unless that is 0
unfoldable pub judged : ℕ → ℕ → ℕ → Step
unfolding pick
judged c n at = pick (eqb c 0) (Ok (at + n)) (Err (c, at))

unfoldable pub check_all : {A : Type 0} → (A → ℕ → Step) → List A → ℕ → Step
check_all f [] at = Ok at
check_all f (x ∷ xs) at = chain (f x at) (check_all f xs)

unfoldable pub check_in : {A : Type 0} (m : Fill) → (A → ℕ → Step) → List ℕ → FieldsIn m A → ℕ → Step
unfolding judged
check_in exact c s f at = c f at
check_in optional c s none at = Ok at
check_in optional c s (some f) at = c f at
check_in open_ended c s f at = chain (c f.0 at) (judged (free_verdict s f.1) (length (text_of s f.1)))

unfoldable pub check : (g : Layout) → List ℕ → Fields g → ℕ → Step
unfolding judged check_all check_in
check empty s f at = Ok at
check (number o w test k) s f at = chain (judged (verdict test f.0) w at) (check (k f.0) s f.1)
check (string o w c) s f at = judged (text_verdict w c s f) (w + length (text_of s f)) at
check (a ▸ b) s f at = chain (check a s f.0 at) (check b s f.1)
check (times n a) s f at = check_all (check a s) f at
check (leading b n a) s f at = chain (judged (run_verdict n f.0) f.0 at) (check a s f.1)
check (region o m a) s f at = check_in m (check a s) s f (at + 4)
check nothing s f at = absurd f
