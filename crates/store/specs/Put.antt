-- Writing by a layout: what a buffer then holds, and the answer. A buffer holds bytes, or 32-bit words; what was written so far is a position
-- in it, or a refusal. Front to back, field by field (document 01, "The looks" and "Order"): a field that may not be written gets the refusal
-- of its test, one that does not fit in the buffer gets 2, both at its first byte; the buffer is then as it was before that field, and
-- nothing more is written.
use Rattle.std.proofs.Math.Option.{none, some}
use Rattle.std.specs.Prelude.{List, [], ◌∷◌, ◌++◌, ℕ, ◌+◌, ◌-◌, ◌^◌, length, take, drop, replicate, eqb, leb, ltb}
use Rattle.layout.specs.Step.{Step}
use Rattle.std.specs.Prelude.{Ok, Err}
use Rattle.sizes.specs.Basics.{pick}
use Rattle.grammar.specs.Layout.{Order, Content, suits, Fill, exact, optional, open_ended, Layout, empty, number, string, ◌▸◌, times, leading, region, nothing, digits}
use Rattle.grammar.specs.Numbers.{too_short, zero_byte, differs, limit_passed}
use Rattle.layout.specs.Reads.{verdict}
use Rattle.store.specs.Fields.{Text, lent, letters, FieldsIn, Fields, bytes_of, text_of}

-- a buffer, and what was written so far
abbrev pub State : Type 0
State = List ℕ × Step

-- ---- one field

-- a buffer with xs stored from a position on
unfoldable pub stored : List ℕ → ℕ → List ℕ → List ℕ
stored b at xs = take at b ++ (xs ++ drop (at + length xs) b)

-- xs at a position, where they fit
unfoldable pub fitted : List ℕ → List ℕ → ℕ → State
unfolding pick stored
fitted xs b at = pick (leb (at + length xs) (length b)) (stored b at xs, Ok (at + length xs)) (b, Err (too_short, at))

-- a field xs that gets the refusal c, unless that is 0
unfoldable pub put_field : ℕ → List ℕ → List ℕ → Step → State
unfolding pick fitted
put_field c xs b (Ok at) = pick (eqb c 0) (fitted xs b at) (b, Err (c, at))
put_field c xs b (Err (n, p)) = (b, Err (n, p))

-- ---- strings

-- the refusal of a string's bytes, by what is asked of them, or 0
unfoldable pub content_verdict : Content → List ℕ → ℕ
unfolding pick suits
content_verdict c xs = pick (suits c xs) 0 zero_byte

-- the refusal of a string with a length of w bytes, or 0: "a name over 255 bytes is 7, then a name not inside the lent bytes is 2" (for a
-- length of one byte); then that of its bytes (document 02, T-06: "after 2 for the same field")
unfoldable pub text_verdict : ℕ → Content → List ℕ → Text → ℕ
unfolding pick content_verdict bytes_of
text_verdict w c s (lent n) =
    pick (ltb n.length (256 ^ w)) (pick (leb (n.place + n.length) (length s)) (content_verdict c (bytes_of s n)) too_short) limit_passed
text_verdict w c s (letters xs) = pick (ltb (length xs) (256 ^ w)) (content_verdict c xs) limit_passed

-- of free content, which has no length of its own
unfoldable pub free_verdict : List ℕ → Text → ℕ
unfolding pick
free_verdict s (lent n) = pick (leb (n.place + n.length) (length s)) 0 too_short
free_verdict s (letters xs) = 0

-- ---- a run of optional bytes

-- the refusal of a run of k bytes where n are allowed
unfoldable pub run_verdict : ℕ → ℕ → ℕ
unfolding pick
run_verdict n k = pick (leb k n) 0 differs

-- ---- regions: the count is stored once the content is written

-- past the count
unfoldable pub opened : List ℕ → Step → State
unfolding pick
opened b (Ok at) = pick (leb (at + 4) (length b)) (b, Ok (at + 4)) (b, Err (too_short, at))
opened b (Err (n, p)) = (b, Err (n, p))

-- the count of a region that starts at the first step and whose content ends at the second
unfoldable pub closed : Order → Step → List ℕ → Step → State
unfolding pick stored
closed o (Ok at) b (Ok p) = pick (leb (at + 4) (length b)) (stored b at (digits o 4 (p - (at + 4))), Ok p) (b, Err (too_short, at))
closed o (Ok at) b (Err (n, p)) = (b, Err (n, p))
closed o (Err (n, p)) b st = (b, st)

-- ---- by a layout

unfoldable pub put_all : {A : Type 0} → (A → State → State) → List A → State → State
put_all f [] x = x
put_all f (y ∷ ys) x = put_all f ys (f y x)

unfoldable pub put_in : {A : Type 0} (m : Fill) → (A → State → State) → List ℕ → FieldsIn m A → State → State
unfolding put_field
put_in exact p s f x = p f x
put_in optional p s none x = x
put_in optional p s (some f) x = p f x
put_in open_ended p s f x =
    let y = p f.0 x in
    put_field (free_verdict s f.1) (text_of s f.1) y.0 y.1

-- the fields f of g, whose names lie in s
unfoldable pub put : (g : Layout) → List ℕ → Fields g → State → State
unfolding put_field put_all put_in opened closed
put empty s f x = x
put (number o w test k) s f x = put (k f.0) s f.1 (put_field (verdict test f.0) (digits o w f.0) x.0 x.1)
put (string o w c) s f x = put_field (text_verdict w c s f) (digits o w (length (text_of s f)) ++ text_of s f) x.0 x.1
put (a ▸ b) s f x = put b s f.1 (put a s f.0 x)
put (times n a) s f x = put_all (put a s) f x
put (leading b n a) s f x = put a s f.1 (put_field (run_verdict n f.0) (replicate f.0 b) x.0 x.1)
put (region o m a) s f x =
    let y = opened x.0 x.1 in
    let z = put_in m (put a s) s f y in
    closed o x.1 z.0 z.1
put nothing s f x = absurd f

-- ---- words

-- words one after the other, each as a field
unfoldable pub put_words : List ℕ → State → State
unfolding put_field
put_words [] x = x
put_words (w ∷ ws) x = put_words ws (put_field 0 (w ∷ []) x.0 x.1)
