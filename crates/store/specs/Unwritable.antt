-- Which fields a writer refuses, by which number, and where (document 01, "The looks" and "Refusal numbers"), for every layout: over the
-- fields and the bytes s that hold their names. It says nothing of how it is found out; Laws/Exactly.antt says that a writer refuses exactly so.
use Rattle.std.specs.Prelude.{◌≡◌, true, false, List, ◌∷◌, ℕ, ◌+◌, ◌^◌, ◌≤◌, ◌<◌, length}
use Rattle.std.proofs.Math.Option.{none, some}
use Rattle.grammar.specs.Layout.{Order, Test, passes, Content, suits, Fill, exact, optional, open_ended, Layout, empty, number, string, ◌▸◌, times, leading, region, nothing, All}
use Rattle.grammar.specs.Numbers.{refusal, too_short, zero_byte, differs, limit_passed}
use Rattle.store.specs.Fields.{Text, lent, letters, FieldsIn, Fields, text_of, bytes_in}

-- how long a text is
abbrev pub text_length : Text → ℕ
text_length (lent n) = n.length
text_length (letters xs) = length xs

-- a text lies inside the bytes lent for names, or does not; a writer's own letters always do
abbrev pub Inside : List ℕ → Text → Type 0
Inside s (lent n) = n.place + n.length ≤ length s
Inside s (letters xs) = Unit {0}

abbrev pub Outside : List ℕ → Text → Type 0
Outside s (lent n) = length s < n.place + n.length
Outside s (letters xs) = ⊥

abbrev pub WritableIn : {A : Type 0} (m : Fill) → (A → Type 0) → List ℕ → FieldsIn m A → Type 0
WritableIn exact P s f = P f
WritableIn optional P s none = Unit {0}
WritableIn optional P s (some f) = P f
WritableIn open_ended P s f = P f.0 × Inside s f.1

-- fields that can be written: each number passes its test; each string is as short as its length's w bytes can say, lies inside s and is what
-- is asked of it; no run is longer than it may be
abbrev pub Writable : (g : Layout) → List ℕ → Fields g → Type 0
Writable empty s f = Unit {0}
Writable (number o w test k) s f = (passes test f.0 ≡ true) × Writable (k f.0) s f.1
Writable (string o w c) s f = (text_length f < 256 ^ w) × Inside s f × (suits c (text_of s f) ≡ true)
Writable (a ▸ b) s f = Writable a s f.0 × Writable b s f.1
Writable (times n a) s f = All (Writable a s) f
Writable (leading b n a) s f = (f.0 ≤ n) × Writable a s f.1
Writable (region o m a) s f = WritableIn m (Writable a s) s f
Writable nothing s f = ⊥

-- Unwritable s g f at n p: where the fields f of g are to be written from the place `at` on, refusal n is given at the place p
pub data Unwritable (s : List ℕ) : (g : Layout) → Fields g → ℕ → ℕ → ℕ → Type 0 where
  -- a number that does not pass its test ("a wrong version is 4, a wrong color 14", "shading above 10 is number 7 at the shading byte");
  -- or what it asks for
  number_wrong : {o : Order} {w : ℕ} {test : Test} {k : ℕ → Layout} {f : Fields (number o w test k)} {at : ℕ}
      → passes test f.0 ≡ false → Unwritable s (number o w test k) f at (refusal test f.0) at
  number_then : {o : Order} {w : ℕ} {test : Test} {k : ℕ → Layout} {f : Fields (number o w test k)} {at n p : ℕ}
      → passes test f.0 ≡ true → Unwritable s (k f.0) f.1 (at + w) n p → Unwritable s (number o w test k) f at n p
  -- "a name over 255 bytes is 7, then a name not inside the lent bytes is 2, both at its length byte" (for a length of one byte)
  text_long : {o : Order} {w : ℕ} {c : Content} {f : Text} {at : ℕ} → 256 ^ w ≤ text_length f → Unwritable s (string o w c) f at limit_passed at
  text_outside : {o : Order} {w : ℕ} {c : Content} {f : Text} {at : ℕ}
      → text_length f < 256 ^ w → Outside s f → Unwritable s (string o w c) f at too_short at
  -- "after 2 for the same field" (document 02, T-06)
  text_wrong : {o : Order} {w : ℕ} {c : Content} {f : Text} {at : ℕ}
      → text_length f < 256 ^ w → Inside s f → suits c (text_of s f) ≡ false → Unwritable s (string o w c) f at zero_byte at
  -- "it goes front to back": the first, or the second after a first that can be written
  first : {a b : Layout} {f : Fields (a ▸ b)} {at n p : ℕ} → Unwritable s a f.0 at n p → Unwritable s (a ▸ b) f at n p
  second : {a b : Layout} {f : Fields (a ▸ b)} {at n p : ℕ}
      → Writable a s f.0 → Unwritable s b f.1 (at + length (bytes_in a s f.0)) n p → Unwritable s (a ▸ b) f at n p
  -- of several likewise: the first, or a later one after those before it can be written
  here : {m : ℕ} {a : Layout} {f : Fields a} {fs : List (Fields a)} {at n p : ℕ} → Unwritable s a f at n p → Unwritable s (times m a) (f ∷ fs) at n p
  later : {m : ℕ} {a : Layout} {f : Fields a} {fs : List (Fields a)} {at n p : ℕ}
      → Writable a s f → Unwritable s (times m a) fs (at + length (bytes_in a s f)) n p → Unwritable s (times m a) (f ∷ fs) at n p
  -- a run that is longer than it may be; or what comes after it
  run_long : {b n : ℕ} {a : Layout} {f : Fields (leading b n a)} {at : ℕ} → n < f.0 → Unwritable s (leading b n a) f at differs at
  run_then : {b n : ℕ} {a : Layout} {f : Fields (leading b n a)} {at m p : ℕ}
      → f.0 ≤ n → Unwritable s a f.1 (at + f.0) m p → Unwritable s (leading b n a) f at m p
  -- the content of a region, after its count; free content that does not lie inside s
  content : {o : Order} {a : Layout} {f : Fields a} {at n p : ℕ} → Unwritable s a f (at + 4) n p → Unwritable s (region o exact a) f at n p
  optional_content : {o : Order} {a : Layout} {f : Fields a} {at n p : ℕ}
      → Unwritable s a f (at + 4) n p → Unwritable s (region o optional a) (some f) at n p
  open_content : {o : Order} {a : Layout} {f : Fields (region o open_ended a)} {at n p : ℕ}
      → Unwritable s a f.0 (at + 4) n p → Unwritable s (region o open_ended a) f at n p
  free_outside : {o : Order} {a : Layout} {f : Fields (region o open_ended a)} {at : ℕ}
      → Writable a s f.0 → Outside s f.1 → Unwritable s (region o open_ended a) f at too_short (at + 4 + length (bytes_in a s f.0))
