-- What is found for a character of UTF-8, by its bytes.
use Rattle.std.specs.Prelude.{◌≡◌, refl, List, ℕ, ◌+◌, ◌-◌, ◌*◌, ◌/◌, ◌%◌, ◌≤◌, ◌<◌, eqb, length, get_or, drop, set}
use Rattle.std.proofs.Common.{sym, ap, ◌∙◌, ⊎_elim, arith, ne_eqb}
use Rattle.sizes.specs.Basics.{pick}
use Rattle.convert.specs.Pages.{page_count, ascii, no_byte, byte}
use Rattle.convert.specs.Utf8.{row_two, row_three, decode}
use Rattle.convert.proofs.Laws.Pages.{side, byte_most, byte_below}
use Rattle.convert.proofs.Laws.Utf8.{Decoded, from_one, from_two, from_three, from_four, decoded_by, row_two_is, row_three_is, two_is, three_is, scalar_below}
use Rattle.convert.specs.Laws.Places.{groups, look, group_of}
use Rattle.convert.proofs.Laws.Places.{point, point_low, point_high, look_some, look_none, reach, group_point, lowest_point}
use Rattle.convert.specs.Convert.{from}
use Rattle.codepages.specs.Laws.Passes.{Ready, fits, Wrote, wrote}
use Rattle.codepages.specs.Laws.Branches.{past, decode_two, decode_three, decode_four, lead_size, from_at, from_some, from_ready}

-- 0 is no byte
unfoldable pub or_none : ℕ → ℕ
or_none x = pick (eqb x 0) no_byte x

pub or_none_is : (x : ℕ) → x ≡ 0 → no_byte ≡ or_none x
unfolding or_none pick
or_none_is x e = rw e

pub or_some_is : (x : ℕ) → (x ≡ 0 → ⊥) → x ≡ or_none x
unfolding or_none pick
or_some_is x n = rw (ne_eqb x 0 n)

-- no byte, unless one leads to a contradiction
no_byte_by : (k c : ℕ) → k < page_count → (byte k c < no_byte → ⊥) → no_byte ≡ byte k c
no_byte_by k c hk f = ⊎_elim (λ (h : byte k c < no_byte). absurd (f h)) (λ (h : no_byte ≤ byte k c). omega (arith, byte_most k c hk)) (side (byte k c) no_byte)

-- the number found for a code point c of group i, if c is what a row of UTF-8 gives or that gives none
found_is : (k i d x c r : ℕ) (hk : k < page_count) (hi : i < groups) (hd : d < 64) → x ≡ look k i d → point k i d hk hi hd ≡ c → (ascii ≤ c → r ≡ c) → (byte k r < no_byte → ascii ≤ c) → or_none x ≡ byte k r
found_is k i d x c r hk hi hd e p q f = ⊎_elim none some (side x 1)
  where
    none : x < 1 → or_none x ≡ byte k r
    none h =
        let z : x ≡ 0 = omega arith in
        sym (or_none_is x z) ∙ no_byte_by k r hk (λ l.
        let a = f l in
        let n = rw p at (look_none k i d hk hi hd (sym e ∙ z) (rw p a)) in
        omega (arith, l, ap (byte k) (q a), n))

    some : 1 ≤ x → or_none x ≡ byte k r
    some h =
        let s = rw p at (look_some k i d hk hi hd (rw (← e) h)) in
        sym (or_some_is x (λ z. omega arith)) ∙ e ∙ sym s.1 ∙ ap (byte k) (sym (q s.0))

-- ---- two bytes

-- what a character of a page is
pub record Two (k a b : ℕ) : Type 0 where
  pub lead : 194 ≤ a
  pub above : 128 ≤ b
  pub below : b < 192
  pub is : row_two a b ≡ (a - 192) * 64 + (b - 128)

pub two_valid : (k a b : ℕ) → k < page_count → 128 ≤ a → a < 224 → byte k (row_two a b) < no_byte → Two k a b
two_valid k a b hk l m h =
    let below = byte_below k (byte k (row_two a b)) (row_two a b) hk refl h in
    by (row_two a b) refl (decoded_by a b 0 0 (row_two a b) (omega arith) (row_two_is a b 0 0 l m))
  where
    by : (c : ℕ) → row_two a b ≡ c → Decoded a b 0 0 c → Two k a b
    by c e (from_one n _) = absurd (omega arith)
    by c e (from_two _ lb hb s) = record { lead = omega (arith, s.is, s.above); above = lb; below = hb; is = e ∙ sym s.is }
    by c e (from_three n _ _ _ _ _ _) = absurd (omega arith)
    by c e (from_four n _ _ _ _ _ _ _) = absurd (omega arith)

pub two_low : (k a b : ℕ) → k < page_count → 128 ≤ a → a < 192 → no_byte ≡ byte k (row_two a b)
two_low k a b hk l h = no_byte_by k (row_two a b) hk (λ m. omega (arith, (two_valid k a b hk l (omega arith) m).lead))

pub two_not : (k a b : ℕ) → k < page_count → 128 ≤ a → a < 224 → (b / 64 ≡ 2 → ⊥) → no_byte ≡ byte k (row_two a b)
two_not k a b hk l h n = no_byte_by k (row_two a b) hk (λ m. let t = two_valid k a b hk l h m in n (omega (arith, t.above, t.below)))

pub two_found : (k a b x : ℕ) → k < page_count → 192 ≤ a → a < 224 → b / 64 ≡ 2 → x ≡ look k (a - 192) (b - 128) → or_none x ≡ byte k (row_two a b)
two_found k a b x hk l h q e =
    let hi : a - 192 < groups = omega arith in
    let hd : b - 128 < 64 = omega arith in
    let c = (a - 192) * 64 + (b - 128) in
    let p : point k (a - 192) (b - 128) hk hi hd ≡ c = point_low k (a - 192) (b - 128) hk hi hd (omega arith) ∙ omega arith in
    found_is k (a - 192) (b - 128) x c (row_two a b) hk hi hd e p (λ m. two_is a b c (omega arith) (omega arith) refl m (scalar_below c (omega arith)))
    (λ m. let t = two_valid k a b hk (omega arith) h m in omega (arith, t.lead))

-- ---- three bytes

pub record Three (k a b d : ℕ) : Type 0 where
  pub lead : a ≡ 226
  pub above : 128 ≤ b
  pub below : b < 136
  pub over : 128 ≤ d
  pub under : d < 192
  pub is : row_three a b d ≡ (a - 224) * 4096 + (b - 128) * 64 + (d - 128)

pub three_valid : (k a b d : ℕ) → k < page_count → 224 ≤ a → a < 240 → byte k (row_three a b d) < no_byte → Three k a b d
three_valid k a b d hk l m h =
    let below = byte_below k (byte k (row_three a b d)) (row_three a b d) hk refl h in
    by (row_three a b d) refl (decoded_by a b d 0 (row_three a b d) (omega arith) (row_three_is a b d 0 l m))
  where
    by : (c : ℕ) → row_three a b d ≡ c → Decoded a b d 0 c → Three k a b d
    by c e (from_one n _) = absurd (omega arith)
    by c e (from_two n _ _ _) = absurd (omega arith)
    by c e (from_three _ _ lb hb ld hd s) =
        let r = (reach k c hk (omega (arith, s.above)) (rw e at h)).range s.above in
        record { lead = omega (arith, s.is, r); above = lb; below = omega (arith, s.is, r); over = ld; under = hd; is = e ∙ sym s.is }
    by c e (from_four n _ _ _ _ _ _ _) = absurd (omega arith)

pub three_not : (k a b d : ℕ) → k < page_count → 224 ≤ a → a < 240 → (a ≡ 226 → b / 8 ≡ 16 → d / 64 ≡ 2 → ⊥) → no_byte ≡ byte k (row_three a b d)
three_not k a b d hk l h n =
    no_byte_by k (row_three a b d) hk (λ m. let t = three_valid k a b d hk l h m in n t.lead (omega (arith, t.above, t.below)) (omega (arith, t.over, t.under)))

pub three_found : (k a b d x : ℕ) → k < page_count → a ≡ 226 → b / 8 ≡ 16 → d / 64 ≡ 2 → x ≡ look k (b - 96) (d - 128) → or_none x ≡ byte k (row_three a b d)
three_found k a b d x hk q p z e =
    let hi : b - 96 < groups = omega arith in
    let hd : d - 128 < 64 = omega arith in
    let c = (a - 224) * 4096 + (b - 128) * 64 + (d - 128) in
    let y : point k (b - 96) (d - 128) hk hi hd ≡ c = point_high k (b - 96) (d - 128) hk hi hd (omega arith) ∙ omega arith in
    found_is k (b - 96) (d - 128) x c (row_three a b d) hk hi hd e y (λ m. three_is a b d c (omega arith) (omega arith) (omega arith) (omega arith) refl (omega arith) (scalar_below c (omega arith)))
    (λ m. omega arith)

-- ---- a character that is known to be one of the page

known_is : (k i d c : ℕ) (hk : k < page_count) (hi : i < groups) (hd : d < 64) → point k i d hk hi hd ≡ c → ascii ≤ c → byte k c < no_byte → look k i d ≡ byte k c
known_is k i d c hk hi hd p a h =
    let g : group_of c ≡ i = rw (← p) (group_point k i d hk hi hd) in
    let r : c % 64 ≡ d = rw (← p) (lowest_point k i d hk hi hd) in
    rw (g, r) at (reach k c hk a h).found

module _ (k : ℕ) (u : List ℕ) (i a : ℕ) (hk : k < page_count) (ea : a ≡ get_or u i 0) (h : byte k (decode (drop i u)) < no_byte) where
  inside_by : (n : ℕ) → 128 ≤ get_or u n 0 → n < length u
  inside_by n l = ⊎_elim (λ (m : n < length u). m) (λ (m : length u ≤ n). absurd (omega (arith, past u n m))) (side n (length u))

  pub record KnownTwo : Type 0 where
    pub there : i + 1 < length u
    pub lead : 192 ≤ a
    pub above : 128 ≤ get_or u (i + 1) 0
    pub below : get_or u (i + 1) 0 < 192
    pub is : look k (a - 192) (get_or u (i + 1) 0 - 128) ≡ byte k (decode (drop i u))

  pub known_two : 128 ≤ a → a < 224 → KnownTwo
  known_two l m =
      let b = get_or u (i + 1) 0 in
      let e : row_two a b ≡ decode (drop i u) = decode_two k u i a ea b (row_two a b) l m refl refl in
      let v : byte k (row_two a b) < no_byte = rw e h in
      let t = two_valid k a b hk l m v in
      let hi : a - 192 < groups = omega (arith, t.lead) in
      let hd : b - 128 < 64 = omega (arith, t.above, t.below) in
      let p : point k (a - 192) (b - 128) hk hi hd ≡ row_two a b = point_low k (a - 192) (b - 128) hk hi hd (omega arith) ∙ omega (arith, t.is) in
      record {
        there = inside_by (i + 1) t.above;
        lead = omega (arith, t.lead);
        above = t.above;
        below = t.below;
        is = known_is k (a - 192) (b - 128) (row_two a b) hk hi hd p (omega (arith, t.is, t.lead)) v ∙ ap (byte k) e;
      }

  pub record KnownThree : Type 0 where
    pub there : i + 2 < length u
    pub next : i + 1 < length u
    pub above : 128 ≤ get_or u (i + 1) 0
    pub below : get_or u (i + 1) 0 < 136
    pub over : 128 ≤ get_or u (i + 2) 0
    pub under : get_or u (i + 2) 0 < 192
    pub is : look k (get_or u (i + 1) 0 - 96) (get_or u (i + 2) 0 - 128) ≡ byte k (decode (drop i u))

  pub known_three : 224 ≤ a → a < 240 → KnownThree
  known_three l m =
      let b = get_or u (i + 1) 0 in
      let d = get_or u (i + 2) 0 in
      let e : row_three a b d ≡ decode (drop i u) = decode_three k u i a ea b d (row_three a b d) l m refl refl refl in
      let v : byte k (row_three a b d) < no_byte = rw e h in
      let t = three_valid k a b d hk l m v in
      let hi : b - 96 < groups = omega (arith, t.below) in
      let hd : d - 128 < 64 = omega (arith, t.over, t.under) in
      let p : point k (b - 96) (d - 128) hk hi hd ≡ row_three a b d = point_high k (b - 96) (d - 128) hk hi hd (omega (arith, t.above)) ∙ omega (arith, t.is, t.lead, t.above, t.below) in
      record {
        there = inside_by (i + 2) t.over;
        next = inside_by (i + 1) t.above;
        above = t.above;
        below = t.below;
        over = t.over;
        under = t.under;
        is = known_is k (b - 96) (d - 128) (row_three a b d) hk hi hd p (omega (arith, t.is, t.lead)) v ∙ ap (byte k) e;
      }

-- ---- a character is stored

module _ (k : ℕ) (u : List ℕ) (i : ℕ) (o : List ℕ) (w : ℕ) (hk : k < page_count) (l : i < length u) (t : Ready (from k) u i o w) where
  pub ready_byte : byte k (decode (drop i u)) < no_byte
  ready_byte = from_ready k u i (byte k (decode (drop i u))) (lead_size (get_or u i 0)) hk l refl refl t

  -- no character of four bytes
  pub ready_lead : get_or u i 0 < 240
  ready_lead = ⊎_elim (λ (m : get_or u i 0 < 240). m) (λ (m : 240 ≤ get_or u i 0). absurd (omega (arith, ready_byte, decode_four k u i (get_or u i 0) refl hk m))) (side (get_or u i 0) 240)

  pub back_fits : w < length o
  back_fits = omega (arith, fits t (from_at k u i (byte k (decode (drop i u))) (lead_size (get_or u i 0)) hk l refl refl ready_byte))

  pub back_wrote : (x n : ℕ) → x ≡ byte k (decode (drop i u)) → n ≡ lead_size (get_or u i 0) → Wrote (from k) u i o w n 1 (set o w x)
  back_wrote x n e z = let h : x < no_byte = rw e ready_byte in wrote (from_at k u i x n hk l e z h) (from_some k u i x n hk l e z h) refl
