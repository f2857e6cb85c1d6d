-- Passed on: where a layout asks of each of its strings that no byte is 0, no string of a derivation has a byte 0.
use Rattle.std.specs.Prelude.{Bool, true, false}
use mathlib.Core.List.{List, ◌++◌, flat_map}
use Rattle.grammar.specs.Layout.{Content, any_bytes, no_zero, All, all_none, all_more}

-- the content that asks for it
abbrev pub strict : Content → Bool
strict any_bytes = false
strict no_zero = true

pub all_append : {A : Type 0} {P : A → Type 0} {xs ys : List A} → All P xs → All P ys → All P (xs ++ ys)
all_append all_none k = k
all_append (all_more h hs) k = all_more h (all_append hs k)

pub all_flat : {A B : Type 0} {P : A → Type 0} {Q : B → Type 0} {f : A → List B} → ((x : A) → P x → All Q (f x)) → {xs : List A} → All P xs → All Q (flat_map f xs)
unfolding flat_map
all_flat one all_none = all_none
all_flat one (all_more {x} h hs) = all_append (one x h) (all_flat one hs)
