-- Where the byte of a code point stands, so that two looks find it or that it has none. A page's way back is ten rows of 64 numbers. The first row has
-- for the higher bits of a code point the number of the row of its bytes, the others have the bytes by the lowest six bits; 0 is none, and row 9 has
-- none at all. Nothing here has to be believed: two tests computed once say that each entry stands there, and nothing else.
use Rattle.std.specs.Prelude.{◌≡◌, refl, Bool, true, ℕ, zero, suc, ◌+◌, ◌-◌, ◌*◌, ◌%◌, ◌≤◌, ◌<◌, eqb, leb, ltb, drop}
use Rattle.std.proofs.Common.{◌∙◌}
use Rattle.std.proofs.Math.Logic.{⊎_elim}
use native.Mathlib.Omega.{arith}
use Rattle.std.proofs.Math.Dec.{T}
use Rattle.std.proofs.Math.ListN.{length, get_or, take, length-drop, get_or-eq_default}
use Rattle.std.proofs.Math.Seq.{get_or-take, get_or-drop, length-take-le}
use borrow.Author.Tests.{ltb-true, leb-true, eqb-true, lt-ltb, le-ltb, ne_eqb}
use Rattle.sizes.specs.Basics.{pick}
use Rattle.convert.specs.Table.{entries}
use Rattle.convert.specs.Pages.{page_count, page_entries, ascii, no_byte, page, position, byte}
use Rattle.convert.specs.Utf8.{three_bytes}
use Rattle.convert.proofs.Laws.Pages.{side, both, both_left, both_right, is_true, every, at_each, length_page, rule, position_found, byte_high, byte_most}
use Rattle.convert.specs.Laws.Places.{first_three, after_three, groups, above, group_of, rows_of, look}

-- ---- the tests

reached : ℕ → Bool
reached c = pick (ltb c three_bytes) true (both (leb first_three c) (ltb c after_three))

-- the entry e at the place j is none, or is found
placed : ℕ → ℕ → ℕ → Bool
placed k j e = pick (eqb e 0) true (both (reached e) (eqb (look k (group_of e) (e % 64)) (ascii + j)))

-- the number x for the lowest bits d of a code point of group i is none, or the byte of that code point
right : ℕ → ℕ → ℕ → ℕ → Bool
right k i d x = pick (eqb x 0) true (both (leb ascii x) (both (leb ascii (64 * above i + d)) (eqb (get_or (page k) (x - ascii) 0) (64 * above i + d))))

-- group i has the row b
row_right : ℕ → ℕ → ℕ → Bool
row_right k i b = both (ltb b 10) (every (right k i) 0 (take 64 (drop (64 * b) (rows_of k))))

tested : ℕ → Bool
tested k = both (every (placed k) 0 (page k)) (every (row_right k) 0 (take groups (rows_of k)))

all_tested : (T (tested 0)) × (T (tested 1)) × (T (tested 2))
unfolding tested every placed row_right right reached look group_of above both rows_of page entries pick
all_tested = (tt, tt, tt)

tested_at : (k : ℕ) → k < page_count → T (tested k)
tested_at zero h = all_tested.0
tested_at (suc zero) h = all_tested.1
tested_at (suc (suc zero)) h = all_tested.2
tested_at (suc (suc (suc k))) h = absurd (omega arith)

pub length_rows : (k : ℕ) → k < page_count → length (rows_of k) ≡ 640
unfolding rows_of
length_rows zero h = refl
length_rows (suc zero) h = refl
length_rows (suc (suc zero)) h = refl
length_rows (suc (suc (suc k))) h = absurd (omega arith)

-- ---- what a look finds

-- the row of a group
pub row_below : (k i : ℕ) → k < page_count → i < groups → get_or (rows_of k) i 0 < 10
unfolding tested row_right
row_below k i hk h =
    let l = length-take-le groups (rows_of k) (rw (length_rows k hk) (omega arith)) in
    let t = at_each (row_right k) (take groups (rows_of k)) 0 (both_right (every (placed k) 0 (page k)) (every (row_right k) 0 (take groups (rows_of k))) (tested_at k hk)) i (rw l h) in
    rw (get_or-take groups (rows_of k) i 0 h) at (ltb-true (get_or (take groups (rows_of k)) i 0) 10 (is_true _ (both_left (ltb (get_or (take groups (rows_of k)) i 0) 10) _ t)))

module _ (k i d : ℕ) (hk : k < page_count) (hi : i < groups) (hd : d < 64) where
  -- the code point
  pub point : ℕ
  point = 64 * above i + d

  pub point_low : i < 32 → point ≡ 64 * i + d
  unfolding point above pick
  point_low h = rw (lt-ltb i 32 h)

  pub point_high : 32 ≤ i → point ≡ 64 * (i + 96) + d
  unfolding point above pick
  point_high h = rw (le-ltb i 32 h)

  -- its group is i
  pub group_point : group_of point ≡ i
  unfolding group_of pick
  group_point = ⊎_elim
      (λ (h : i < 32). let e = point_low h in rw (lt-ltb point three_bytes (omega (arith, e))) (omega (arith, e)))
      (λ (h : 32 ≤ i). let e = point_high h in rw (le-ltb point three_bytes (omega (arith, e))) (omega (arith, e)))
      (side i 32)

  pub lowest_point : point % 64 ≡ d
  lowest_point = ⊎_elim (λ (h : i < 32). omega (arith, point_low h)) (λ (h : 32 ≤ i). omega (arith, point_high h)) (side i 32)

  looked : T (right k i d (look k i d))
  unfolding tested row_right look
  looked =
      let b = get_or (rows_of k) i 0 in
      let u = take groups (rows_of k) in
      let l = length-take-le groups (rows_of k) (rw (length_rows k hk) (omega arith)) in
      let t = at_each (row_right k) u 0 (both_right (every (placed k) 0 (page k)) (every (row_right k) 0 u) (tested_at k hk)) i (rw l hi) in
      let e : get_or u i 0 ≡ b = get_or-take groups (rows_of k) i 0 hi in
      let z : 0 + i ≡ i = omega arith in
      let s : T (every (right k i) 0 (take 64 (drop (64 * b) (rows_of k)))) = both_right (ltb b 10) (every (right k i) 0 (take 64 (drop (64 * b) (rows_of k)))) (rw (z, e) at t) in
      let m : 64 ≤ length (drop (64 * b) (rows_of k)) = omega (arith, length-drop (64 * b) (rows_of k), length_rows k hk, row_below k i hk hi) in
      let r = at_each (right k i) (take 64 (drop (64 * b) (rows_of k))) 0 s d (rw (length-take-le 64 (drop (64 * b) (rows_of k)) m) hd) in
      let y : 0 + d ≡ d = omega arith in
      rw (y, get_or-take 64 (drop (64 * b) (rows_of k)) d 0 hd, get_or-drop (64 * b) (rows_of k) d 0) at r

  -- what is found is the byte
  found_byte : (x : ℕ) → 0 < x → T (right k i d x) → (ascii ≤ point) × (byte k point ≡ x)
  unfolding right point pick
  found_byte x h t =
      let c = 64 * above i + d in
      let s : T (both (leb ascii x) (both (leb ascii c) (eqb (get_or (page k) (x - ascii) 0) c))) = rw (ne_eqb x 0 (λ q. omega arith)) at t in
      let lx = leb-true ascii x (is_true _ (both_left (leb ascii x) _ s)) in
      let s' = both_right (leb ascii x) (both (leb ascii c) (eqb (get_or (page k) (x - ascii) 0) c)) s in
      let lc = leb-true ascii c (is_true _ (both_left (leb ascii c) _ s')) in
      let e = eqb-true (get_or (page k) (x - ascii) 0) c (is_true _ (both_right (leb ascii c) (eqb (get_or (page k) (x - ascii) 0) c) s')) in
      let l : x - ascii < page_entries = ⊎_elim (λ (m : x - ascii < page_entries). m)
      (λ (m : page_entries ≤ x - ascii). absurd (omega (arith, e, get_or-eq_default (page k) 0 {n = x - ascii} (rw (length_page k hk) m)))) (side (x - ascii) page_entries) in
      let r = rw e at (rule k hk (x - ascii) l (rw e (omega arith))) in
      let z : ascii + (x - ascii) ≡ x = omega arith in
      (lc, byte_high k c lc ∙ r.first ∙ z)

  pub look_some : 0 < look k i d → (ascii ≤ point) × (byte k point ≡ look k i d)
  look_some h = found_byte (look k i d) h looked

-- the code point c of a page is found by its group, and is one of those that are meant
pub record Reached (k c : ℕ) : Type 0 where
  pub found : look k (group_of c) (c % 64) ≡ byte k c
  pub range : three_bytes ≤ c → (first_three ≤ c) × (c < after_three)
  pub high : ascii ≤ byte k c

pub reach : (k c : ℕ) → k < page_count → ascii ≤ c → byte k c < no_byte → Reached k c
unfolding tested placed reached pick
reach k c hk hc h =
    let q = byte_high k c hc in
    let f = position_found c ascii (page k) (rw q at h) in
    let j = position c ascii (page k) - ascii in
    let l : j < page_entries = omega (arith, f.0, q, h) in
    let t = rw f.1 at (at_each (placed k) (page k) 0 (both_left (every (placed k) 0 (page k)) (every (row_right k) 0 (take groups (rows_of k))) (tested_at k hk)) j (rw (length_page k hk) l)) in
    let z : 0 + j ≡ j = omega arith in
    let y : ascii + j ≡ byte k c = omega (arith, f.0, q) in
    parts (rw (ne_eqb c 0 (λ e. omega arith), z, y) at t) (rw q f.0)
  where
    parts : T (both (reached c) (eqb (look k (group_of c) (c % 64)) (byte k c))) → ascii ≤ byte k c → Reached k c
    parts t a = record {
      found = eqb-true _ _ (is_true _ (both_right (reached c) (eqb (look k (group_of c) (c % 64)) (byte k c)) t));
      range = λ m.
          let s : T (both (leb first_three c) (ltb c after_three)) = rw (le-ltb c three_bytes m) at (both_left (reached c) (eqb (look k (group_of c) (c % 64)) (byte k c)) t) in
          (leb-true first_three c (is_true _ (both_left (leb first_three c) (ltb c after_three) s)), ltb-true c after_three (is_true _ (both_right (leb first_three c) (ltb c after_three) s)));
      high = a;
    }

-- where nothing is found there is no byte
pub look_none : (k i d : ℕ) (hk : k < page_count) (hi : i < groups) (hd : d < 64) → look k i d ≡ 0 → ascii ≤ point k i d hk hi hd → byte k (point k i d hk hi hd) ≡ no_byte
look_none k i d hk hi hd e h =
    let c = point k i d hk hi hd in
    ⊎_elim
    (λ (l : byte k c < no_byte).
    let r = reach k c hk h l in
    let f = rw (group_point k i d hk hi hd, lowest_point k i d hk hi hd) at r.found in
    absurd (omega (arith, f, e, r.high)))
    (λ (l : no_byte ≤ byte k c). omega (arith, byte_most k c hk))
    (side (byte k c) no_byte)
