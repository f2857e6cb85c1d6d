-- Bytes and the number that they spell; bytes and what is left after them.
use Rattle.std.specs.Prelude.{◌≡◌, refl, List, [], ◌++◌, ℕ, ◌+◌, ◌^◌, ◌<◌, length, drop}
use Rattle.std.proofs.Common.{sym, ◌∙◌, append-nil, arith, drop-drop, drop_at, le-leb}
use Rattle.std.proofs.Math.Seq.{take-length, drop-length}
use Rattle.sizes.specs.Basics.{pick}
use Rattle.grammar.specs.Layout.{Order, any_number, passes, empty, number, spell, digits, Bytes, undigits}
use Rattle.grammar.specs.Laws.Layout.Read.{got, bind, read_number, read}
use Rattle.grammar.specs.Laws.Layout.Sound as sound

-- a number that was read, as a layout
pub whole : (o : Order) (w : ℕ) (s : List ℕ) (at n : ℕ) (r : List ℕ) (p : ℕ) → read_number o w s at ≡ got n r p → read (number o w any_number (λ _. empty)) s at ≡ got (n, tt) r p
unfolding read bind pick passes
whole o w s at n r p e = rw e

number_all : (o : Order) (bs : List ℕ) → read_number o (length bs) bs 0 ≡ got (undigits o bs) [] (0 + length bs)
unfolding read_number pick
number_all o bs = rw (le-leb (length bs) (length bs) (omega arith), take-length bs, drop-length bs)

-- bytes are those of the number that they spell
pub digits_of : (o : Order) (bs : List ℕ) → Bytes bs → digits o (length bs) (undigits o bs) ≡ bs
unfolding spell
digits_of o bs h =
    let g = number o (length bs) any_number (λ _. empty) in
    let e = whole o (length bs) bs 0 (undigits o bs) [] (0 + length bs) (number_all o bs) in
    let q : bs ≡ spell g (undigits o bs, tt) ++ [] = (sound.sound g bs h 0 (undigits o bs, tt) [] (0 + length bs) e).split in
    sym (simp append-nil at q)

pub letters_lt : (o : Order) (bs : List ℕ) → Bytes bs → undigits o bs < 256 ^ length bs
letters_lt o bs h =
    let g = number o (length bs) any_number (λ _. empty) in
    let e = whole o (length bs) bs 0 (undigits o bs) [] (0 + length bs) (number_all o bs) in
    (sound.sound g bs h 0 (undigits o bs, tt) [] (0 + length bs) e).valid.0

-- two runs of bytes of the same length that spell the same number are equal
pub same_letters : (o : Order) (xs ys : List ℕ) → Bytes xs → Bytes ys → length xs ≡ length ys → undigits o xs ≡ undigits o ys → xs ≡ ys
same_letters o xs ys hx hy l e = sym (digits_of o xs hx) ∙ rw (l, e) (digits_of o ys hy)

-- what is left after the bytes xs at a place
pub after : (s : List ℕ) (at : ℕ) (xs r : List ℕ) → drop at s ≡ xs ++ r → drop (at + length xs) s ≡ r
after s at xs r e = sym (drop-drop (length xs) at s) ∙ rw e (drop_at xs r (length xs) refl)
