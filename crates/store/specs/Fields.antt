-- What a reader hands out of a layout, and a writer takes: the tree, with a text instead of the bytes of each string.
use Rattle.std.proofs.Math.Option.{Option, none, some}
use Rattle.std.specs.Prelude.{List, [], ◌∷◌, ℕ, ◌+◌, length, take, drop}
use Rattle.grammar.specs.Layout.{Fill, exact, optional, open_ended, Filled, Layout, empty, number, string, ◌▸◌, times, leading, region, nothing, Tree, spell_fill, spell}
use Rattle.store.specs.declared.Name.{Name}

-- the bytes of a string: by their place and their length in the bytes that are lent for names; or a writer's own letters
pub data Text : Type 0 where
  lent : Name → Text
  letters : List ℕ → Text

abbrev pub FieldsIn : Fill → Type 0 → Type 0
FieldsIn exact A = A
FieldsIn optional A = Option A
FieldsIn open_ended A = A × Text

abbrev pub Fields : Layout → Type 0
Fields empty = Unit {0}
Fields (number o w test k) = (n : ℕ) × Fields (k n)
Fields (string o w c) = Text
Fields (a ▸ b) = Fields a × Fields b
Fields (times n a) = List (Fields a)
Fields (leading b n a) = ℕ × Fields a
Fields (region o m a) = FieldsIn m (Fields a)
Fields nothing = ⊥

-- ---- the fields of a tree whose first byte stands at a place

unfoldable pub placed_all : {A B : Type 0} → (A → ℕ → B) → (A → List ℕ) → List A → ℕ → List B
placed_all f sp [] at = []
placed_all f sp (x ∷ xs) at = f x at ∷ placed_all f sp xs (at + length (sp x))

unfoldable pub placed_in : {A B : Type 0} (m : Fill) → (A → ℕ → B) → (A → List ℕ) → Filled m A → ℕ → FieldsIn m B
placed_in exact f sp t at = f t at
placed_in optional f sp none at = none
placed_in optional f sp (some t) at = some (f t at)
placed_in open_ended f sp t at = (f t.0 at, lent record { place = at + length (sp t.0); length = length t.1 })

unfoldable pub placed : (g : Layout) → Tree g → ℕ → Fields g
unfolding placed_all placed_in
placed empty t at = t
placed (number o w test k) t at = (t.0, placed (k t.0) t.1 (at + w))
placed (string o w c) t at = lent record { place = at + w; length = length t }
placed (a ▸ b) t at = (placed a t.0 at, placed b t.1 (at + length (spell a t.0)))
placed (times n a) t at = placed_all (placed a) (spell a) t at
placed (leading b n a) t at = (t.0, placed a t.1 (at + t.0))
placed (region o m a) t at = placed_in m (placed a) (spell a) t (at + 4)
placed nothing t at = t

-- ---- the tree of fields whose names lie in s

-- the bytes of a name
unfoldable pub bytes_of : List ℕ → Name → List ℕ
bytes_of s n = take n.length (drop n.place s)

unfoldable pub text_of : List ℕ → Text → List ℕ
unfolding bytes_of
text_of s (lent n) = bytes_of s n
text_of s (letters xs) = xs

unfoldable pub resolve_all : {A B : Type 0} → (A → B) → List A → List B
resolve_all f [] = []
resolve_all f (x ∷ xs) = f x ∷ resolve_all f xs

unfoldable pub resolve_in : {A B : Type 0} (m : Fill) → (A → B) → List ℕ → FieldsIn m A → Filled m B
unfolding text_of
resolve_in exact g s f = g f
resolve_in optional g s none = none
resolve_in optional g s (some f) = some (g f)
resolve_in open_ended g s f = (g f.0, text_of s f.1)

unfoldable pub resolve : (g : Layout) → List ℕ → Fields g → Tree g
unfolding resolve_all resolve_in text_of
resolve empty s f = f
resolve (number o w test k) s f = (f.0, resolve (k f.0) s f.1)
resolve (string o w c) s f = text_of s f
resolve (a ▸ b) s f = (resolve a s f.0, resolve b s f.1)
resolve (times n a) s f = resolve_all (resolve a s) f
resolve (leading b n a) s f = (f.0, resolve a s f.1)
resolve (region o m a) s f = resolve_in m (resolve a s) s f
resolve nothing s f = f

-- the bytes of fields in what is written: those that their tree spells
unfoldable pub bytes_in : (g : Layout) → List ℕ → Fields g → List ℕ
unfolding resolve
bytes_in g s f = spell g (resolve g s f)

-- of the content of a region
unfoldable pub content_in : (m : Fill) (a : Layout) → List ℕ → FieldsIn m (Fields a) → List ℕ
unfolding resolve resolve_in
content_in m a s f = spell_fill m (spell a) (resolve_in m (resolve a s) s f)
