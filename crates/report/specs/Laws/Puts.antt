-- One text after the other.
use Rattle.std.specs.Prelude.{ℕ, ◌+◌, ◌≤◌, ◌≡◌, refl, List, [], ◌++◌, true, false, length, take, drop, leb}
use Rattle.std.proofs.Common.{sym, ap, ◌∙◌, append_assoc, append-nil, add_assoc, add-zero, arith, take-append-drop, length-append, length-drop, length-take-le, take_at, drop_at, drop-drop}
use Rattle.report.specs.Text.{Puts, pasted, fitting, Printed}

seam : (b xs : List ℕ) (at : ℕ) → at ≤ length b → length (take at b ++ xs) ≡ at + length xs
seam b xs at h = simp (length-append, length-take-le at b h)

pub length_pasted : (b xs : List ℕ) (at : ℕ) → at + length xs ≤ length b → length (pasted b at xs) ≡ length b
length_pasted b xs at h =
    rw (length-append (take at b ++ xs), seam b xs at (omega arith), length-drop) (omega arith)

paste_paste : (b xs ys : List ℕ) (at : ℕ) → at ≤ length b → pasted (pasted b at xs) (at + length xs) ys ≡ pasted b at (xs ++ ys)
paste_paste b xs ys at h =
    let rest = drop (at + length xs) b in
    let s = seam b xs at h in
    rw (
      take_at (take at b ++ xs) rest (at + length xs) s,
      ← drop-drop (length ys) (at + length xs) (take at b ++ xs ++ rest),
      drop_at (take at b ++ xs) rest (at + length xs) s,
      drop-drop (length ys) (at + length xs) b,
      append_assoc (take at b) xs ys,
      length-append xs ys,
      ← add_assoc at (length xs) (length ys),
    )

pub nothing : {b : List ℕ} {at : ℕ} → at ≤ length b → Puts [] b at b at
nothing {b} {at} h =
    record {
      buffer = sym (rw (add-zero at, append-nil (take at b)) (take-append-drop at b));
      next = omega arith;
      room = omega arith;
    }

infixl 20 ◌▹◌
pub ◌▹◌ : {xs ys b b' b'' : List ℕ} {at p r : ℕ} → Puts xs b at b' p → Puts ys b' p b'' r → Puts (xs ++ ys) b at b'' r
◌▹◌ {xs} {ys} {b} {b'} {b''} {at} {p} {r} f g =
    let same : length b' ≡ length b = ap length f.buffer ∙ length_pasted b xs at f.room in
    let both : length (xs ++ ys) ≡ length xs + length ys = length-append xs ys in
    record {
      buffer = rw (f.buffer, f.next) at g.buffer ∙ paste_paste b xs ys at (omega (arith, f.room));
      next = omega (arith, f.next, g.next);
      room = omega (arith, f.next, g.room);
    }

-- ---- a whole text, or none

module _ {most : ℕ} {xs b b' : List ℕ} {r : ℕ} where
  pub printed : leb most (length b) ≡ true → Puts xs b 0 b' r → Printed most xs b b' r
  printed e f =
      let same : length b' ≡ length b = ap length f.buffer ∙ length_pasted b xs 0 f.room in
      let t : fitting most b xs ≡ xs = rw e in
      let within : r ≤ length b' = omega (arith, f.next, f.room) in
      record { text = rw t f; count = (within, sym (length-take-le r b' within)) }

pub unprinted : {most : ℕ} {xs b : List ℕ} → leb most (length b) ≡ false → Printed most xs b b 0
unprinted {most} {xs} {b} e =
    let t : fitting most b xs ≡ [] = rw e in
    record { text = rw t (nothing (omega arith)); count = (omega arith, refl) }
