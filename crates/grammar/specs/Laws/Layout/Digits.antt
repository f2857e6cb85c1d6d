-- A number's bytes, over every width and both orders.
use Rattle.std.specs.Prelude.{◌≡◌, refl, ℕ, zero, suc, ◌+◌, ◌*◌, ◌/◌, ◌%◌, ◌^◌, ◌<◌, length}
use Rattle.std.proofs.Common.{ap, ◌∙◌, pow-suc, arith}
use mathlib.Core.List.{List, reverse, reverse_aux, reverse-reverse}
use Rattle.std.proofs.lemmas.List.{length-reverse}
use Rattle.sizes.specs.Basics.{le, undigit}
use Rattle.grammar.specs.Layout.{Order, little, big, digits, Bytes, no_bytes, byte, undigits}

pub length_le : (w n : ℕ) → length (le w n) ≡ w
unfolding le
length_le zero n = refl
length_le (suc w) n = ap suc (length_le w (n / 256))

pub pow_pos : (w : ℕ) → 0 < 256 ^ w
pow_pos zero = omega arith
pow_pos (suc w) = let ih : 0 < 256 ^ w = pow_pos w in rw pow-suc (omega arith)

undigit_le : (w n : ℕ) → n < 256 ^ w → undigit (le w n) ≡ n
unfolding le undigit
undigit_le zero n h = omega arith
undigit_le (suc w) n h =
    let h' : n < 256 ^ w * 256 = rw pow-suc at h in
    let ih : undigit (le w (n / 256)) ≡ n / 256 = undigit_le w (n / 256) (omega arith) in
    omega arith

undigit_lt : {bs : List ℕ} → Bytes bs → undigit bs < 256 ^ length bs
unfolding undigit
undigit_lt no_bytes = omega arith
undigit_lt (byte {b} {bs} h hs) =
    let ih : undigit bs < 256 ^ length bs = undigit_lt hs in
    rw pow-suc (omega arith)

le_undigit : {bs : List ℕ} → Bytes bs → le (length bs) (undigit bs) ≡ bs
unfolding le undigit
le_undigit no_bytes = refl
le_undigit (byte {b} {bs} h hs) =
    let low : (b + 256 * undigit bs) % 256 ≡ b = omega arith in
    let high : (b + 256 * undigit bs) / 256 ≡ undigit bs = omega arith in
    rw (low, high, le_undigit hs)

reverse_aux_bytes : {xs ys : List ℕ} → Bytes xs → Bytes ys → Bytes (reverse_aux xs ys)
reverse_aux_bytes no_bytes k = k
reverse_aux_bytes (byte h hs) k = reverse_aux_bytes hs (byte h k)

pub length_digits : (o : Order) (w n : ℕ) → length (digits o w n) ≡ w
unfolding digits
length_digits little w n = length_le w n
length_digits big w n = length-reverse (le w n) ∙ length_le w n

pub undigits_digits : (o : Order) (w n : ℕ) → n < 256 ^ w → undigits o (digits o w n) ≡ n
unfolding digits undigits
undigits_digits little w n h = undigit_le w n h
undigits_digits big w n h = rw reverse-reverse (undigit_le w n h)

pub digits_undigits : (o : Order) (w : ℕ) (bs : List ℕ) → Bytes bs → length bs ≡ w → digits o w (undigits o bs) ≡ bs
unfolding digits undigits
digits_undigits little w bs h e = rw (← e) (le_undigit h)
digits_undigits big w bs h e =
    let h' : Bytes (reverse bs) = reverse_aux_bytes h no_bytes in
    rw (← e, ← (length-reverse bs), le_undigit h') (reverse-reverse bs)

pub undigits_lt : (o : Order) (w : ℕ) (bs : List ℕ) → Bytes bs → length bs ≡ w → undigits o bs < 256 ^ w
unfolding undigits
undigits_lt little w bs h e = rw (← e) (undigit_lt h)
undigits_lt big w bs h e =
    let h' : Bytes (reverse bs) = reverse_aux_bytes h no_bytes in
    rw (← e, ← (length-reverse bs)) (undigit_lt h')
