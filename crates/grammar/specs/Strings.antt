-- The strings of a derivation tree, in file order. Free content is no string.
use Rattle.std.specs.Prelude.{◌≡◌, ℕ}
use Rattle.std.proofs.Math.Option.{none, some}
use mathlib.Core.List.{List, [], ◌∷◌, ◌++◌, flat_map}
use Rattle.grammar.specs.Layout.{Fill, exact, optional, open_ended, Filled, Layout, empty, number, string, ◌▸◌, times, leading, region, nothing, Tree, All}

unfoldable pub strings_in : {A : Type 0} (f : Fill) → (A → List (List ℕ)) → Filled f A → List (List ℕ)
strings_in exact g t = g t
strings_in optional g none = []
strings_in optional g (some t) = g t
strings_in open_ended g t = g t.0

unfoldable pub strings : (g : Layout) → Tree g → List (List ℕ)
unfolding strings_in
strings empty t = []
strings (number o w test k) t = strings (k t.0) t.1
strings (string o w c) t = t ∷ []
strings (a ▸ b) t = strings a t.0 ++ strings b t.1
strings (times n a) t = flat_map (strings a) t
strings (leading b n a) t = strings a t.1
strings (region o f a) t = strings_in f (strings a) t
strings nothing t = absurd t

-- none of the bytes is 0 (003: "a null byte (a valid string never will)")
abbrev pub NoZero : List ℕ → Type 0
NoZero xs = All (λ b. ¬ (b ≡ 0)) xs

-- no string of a tree holds a zero byte
abbrev pub Free : (g : Layout) → Tree g → Type 0
Free g t = All NoZero (strings g t)
