-- Usual bytes: those under 128, and those whose code points have two bytes in UTF-8. A text of them is measured by counting.
use Rattle.std.specs.Prelude.{◌≡◌, Bool, true, false, List, ℕ, zero, suc, ◌+◌, ◌-◌, ◌/◌, ◌≤◌, ◌<◌, eqb, leb, ltb, length}
use Rattle.std.proofs.Common.{ap, ◌∙◌}
use Rattle.std.proofs.Math.Logic.{⊎_elim}
use native.Mathlib.Omega.{arith}
use Rattle.std.proofs.Math.Dec.{T}
use Rattle.std.proofs.Math.ListN.{get_or}
use Rattle.std.specs.Int.Bits.{bit_or, or_add_and}
use Rattle.std.proofs.lemmas.Nat.{and_le_l, and_le_r}
use borrow.Author.Tests.{leb-true, ltb-true, eqb-false, ne_eqb, le-ltb}
use Rattle.sizes.specs.Basics.{pick}
use Rattle.convert.specs.Table.{entries}
use Rattle.convert.specs.Pages.{page_count, ascii, no_code_point, no_byte, page, listed, code_point}
use Rattle.convert.specs.Utf8.{two_bytes, three_bytes, encode}
use Rattle.convert.specs.Convert.{Step, to}
use Rattle.convert.proofs.Laws.Pages.{side, both, both_left, both_right, is_true, every, at_each, length_page, point_low, point_high}
use Rattle.convert.proofs.Laws.Utf8.{encode_one, encode_two}
use Rattle.codepages.specs.Laws.Passes.{Skips, skips, skips_more}
use Rattle.codepages.specs.Laws.Branches.{to_at}

-- bytes that are counted together at most
abbrev pub many : ℕ
many = 64

-- ---- the rule

-- the byte of a page, beside those from 128 to 159, that is not usual: 8470 has three bytes; 128 where there is no other
unfoldable pub odd_of : ℕ → ℕ
odd_of k = pick (eqb k 1) 185 128

pub record Usual (odd b : ℕ) : Type 0 where
  pub outside : b / 32 ≡ 4 → ⊥
  pub other : b ≡ odd → ⊥

pub odd_one : (k : ℕ) → k ≡ 1 → 185 ≡ odd_of k
unfolding odd_of pick
odd_one k e = rw e

pub odd_other : (k : ℕ) → (k ≡ 1 → ⊥) → 128 ≡ odd_of k
unfolding odd_of pick
odd_other k n = rw (ne_eqb k 1 n)

-- the entry e at the place j is of a byte that is not usual, or has two bytes
two_at : ℕ → ℕ → ℕ → Bool
two_at odd j e = pick (ltb j 32) true (pick (eqb (ascii + j) odd) true (both (leb two_bytes e) (ltb e three_bytes)))

tested : ℕ → Bool
tested k = every (two_at (odd_of k)) 0 (page k)

all_tested : (T (tested 0)) × (T (tested 1)) × (T (tested 2))
unfolding tested every two_at odd_of both page entries pick
all_tested = (tt, tt, tt)

tested_at : (k : ℕ) → k < page_count → T (tested k)
tested_at zero h = all_tested.0
tested_at (suc zero) h = all_tested.1
tested_at (suc (suc zero)) h = all_tested.2
tested_at (suc (suc (suc k))) h = absurd (omega arith)

-- the size of a usual byte
unfoldable pub size_of : ℕ → ℕ
size_of b = 1 + b / 128

listed_two : (e : ℕ) → two_bytes ≤ e → listed e ≡ e
unfolding listed pick
listed_two e h = rw (ne_eqb e 0 (λ q. omega arith))

module _ (k b : ℕ) (hk : k < page_count) (hb : b < no_byte) (u : Usual (odd_of k) b) where
  entry_two : ascii ≤ b → (two_bytes ≤ get_or (page k) (b - ascii) 0) × (get_or (page k) (b - ascii) 0 < three_bytes)
  unfolding tested two_at pick
  entry_two l =
      let e = get_or (page k) (b - ascii) 0 in
      let t = at_each (two_at (odd_of k)) (page k) 0 (tested_at k hk) (b - ascii) (rw (length_page k hk) (omega arith)) in
      let z : 0 + (b - ascii) ≡ b - ascii = omega arith in
      let h : 32 ≤ b - ascii = ⊎_elim (λ (m : b - ascii < 32). absurd (u.outside (omega arith))) (λ m. m) (side (b - ascii) 32) in
      let y : ascii + (b - ascii) ≡ b = omega arith in
      let s : T (both (leb two_bytes e) (ltb e three_bytes)) = rw (le-ltb (b - ascii) 32 h, y, ne_eqb b (odd_of k) u.other) at (rw z at t) in
      (leb-true two_bytes e (is_true _ (both_left (leb two_bytes e) (ltb e three_bytes) s)), ltb-true e three_bytes (is_true _ (both_right (leb two_bytes e) (ltb e three_bytes) s)))

  pub usual_point : (code_point k b < no_code_point) × (length (encode (code_point k b)) ≡ size_of b)
  unfolding size_of
  usual_point = ⊎_elim low high (side b ascii)
    where
      low : b < ascii → (code_point k b < no_code_point) × (length (encode (code_point k b)) ≡ 1 + b / 128)
      low h = let z : 1 ≡ 1 + b / 128 = omega arith in rw (point_low k b h, encode_one b h) (omega arith, z)

      high : ascii ≤ b → (code_point k b < no_code_point) × (length (encode (code_point k b)) ≡ 1 + b / 128)
      high h =
          let t = entry_two h in
          let c : code_point k b ≡ get_or (page k) (b - ascii) 0 = point_high k b h ∙ listed_two (get_or (page k) (b - ascii) 0) t.0 in
          let z : 2 ≡ 1 + b / 128 = omega arith in
          rw (c, encode_two (get_or (page k) (b - ascii) 0) t.0 t.1) (omega (arith, t.1), z)

-- ---- counting

pub skips_none : (f : List ℕ → Step) (u : List ℕ) (i : ℕ) → i ≤ length u → Skips f u i 0 0
skips_none f u i h = let z : i + 0 ≡ i = omega arith in record { inside = omega arith; goes = rw z; counts = rw z (omega arith) }

-- the byte after n usual ones, of which `high` are not under 128, is usual too
pub usual_more : (k : ℕ) (u : List ℕ) (i n high b : ℕ) → k < page_count → i + n < length u → b ≡ get_or u (i + n) 0 → b < no_byte → Usual (odd_of k) b → Skips (to k) u i n (n + high)
    → Skips (to k) u i (n + 1) (n + 1 + (high + b / 128))
unfolding size_of
usual_more k u i n high b hk h e hb v s =
    let p = usual_point k b hk hb v in
    let q : code_point k b ≡ code_point k (get_or u (i + n) 0) = ap (code_point k) e in
    let one : Skips (to k) u (i + n) 1 (1 + b / 128) = rw p.1 at (skips (to_at k u (i + n) (code_point k b) q p.0 h)) in
    let z : n + high + (1 + b / 128) ≡ n + 1 + (high + b / 128) = omega arith in
    rw z at (skips_more s one)

-- the `or` of two numbers is 0 only if both are
pub or_none_lem : (a b : ℕ) → bit_or a b ≡ 0 → (a ≡ 0) × (b ≡ 0)
or_none_lem a b e = let s = or_add_and a b in (omega (arith, s, and_le_r a b), omega (arith, s, and_le_l a b))

-- two marks, neither of which is set
pub marks_none : (b odd x y : ℕ) → (x ≡ 0 → eqb (b / 32) 4 ≡ false) → (y ≡ 0 → eqb b odd ≡ false) → bit_or x y ≡ 0 → Usual odd b
marks_none b odd x y f g e = let n = or_none_lem x y e in record { outside = eqb-false (b / 32) 4 (f n.0); other = eqb-false b odd (g n.1) }
