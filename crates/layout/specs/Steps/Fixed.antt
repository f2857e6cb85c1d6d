-- Fields of fixed size, all of whose bytes are there: after one test of how many bytes are left, each field is a number in a part of their
-- size.
use Rattle.std.specs.Prelude.{◌≡◌, refl, List, [], ◌∷◌, ℕ, zero, suc, ◌+◌, ◌-◌, ◌≤◌, length, take, drop}
use Rattle.std.proofs.Common.{sym, ap, ◌∙◌, arith, length-drop, take-take, drop-drop, length-take-le, le-leb}
use Rattle.std.specs.Prelude.{Ok}
use Rattle.sizes.specs.Basics.{pick}
use Rattle.grammar.specs.Layout.{Order, Test, undigits}
use Rattle.grammar.specs.Conventions as notation
use Rattle.layout.specs.Reads.{peek, verdict, field, ReadsTo}
use Rattle.layout.specs.Steps.Fields.{peek_at, field_at}
use Rattle.layout.specs.Steps.Numbers.{tested_of}

-- a number whose bytes are there
number_there : (o : Order) (w : ℕ) (s : List ℕ) (at : ℕ) → w ≤ length s - at → peek o w s (Ok at) ≡ undigits o (take w (drop at s))
unfolding pick
number_there o w s at h = peek_at o w s at ∙ rw (le-leb w (length s - at) h)

-- a field whose bytes are there and whose number passes its test is read
pub passed : {o : Order} {w : ℕ} {test : Test} {s : List ℕ} {at v p : ℕ} → w ≤ length s - at → v ≡ peek o w s (Ok at) → 0 ≡ verdict test v → p ≡ at + w
    → ReadsTo (notation.field o w test) s (Ok at) (Ok p)
unfolding pick
passed {w = w} {s = s} {at = at} h e f z =
    let read : Ok (at + w) ≡ field w 0 s (Ok at) = sym (field_at w 0 s at ∙ rw (le-leb w (length s - at) h)) in
    rw z (tested_of read f e)

-- the bytes of a number, in a part and in the whole
same_bytes : (w k n : ℕ) (s : List ℕ) → k + w ≤ n → take w (drop k (take n s)) ≡ take w (drop k s)
same_bytes w zero n s h = take-take w n s (omega arith)
same_bytes w (suc k) zero s h = absurd (omega arith)
same_bytes w (suc k) (suc n) [] h = refl
same_bytes w (suc k) (suc n) (b ∷ bs) h = same_bytes w k n bs (omega arith)

-- the number at k in the part of n bytes from e on
pub peek_in_part : (o : Order) (w n e k : ℕ) (s : List ℕ) → k + w ≤ n → e + n ≤ length s → peek o w (take n (drop e s)) (Ok k) ≡ peek o w s (Ok (e + k))
peek_in_part o w n e k s h l =
    let m : length (take n (drop e s)) ≡ n = length-take-le n (drop e s) (omega (arith, length-drop e s)) in
    number_there o w (take n (drop e s)) k (omega (arith, m))
    ∙ ap (undigits o) (same_bytes w k n (drop e s) h ∙ ap (take w) (drop-drop k e s))
    ∙ sym (number_there o w s (e + k) (omega arith))
