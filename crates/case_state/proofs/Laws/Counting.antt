-- Elements, codes and blocks before a place: each step counts on, and the test of the counts is exact.
use Rattle.std.specs.Prelude.{◌≡◌, true, ℕ, suc, ◌+◌, ◌-◌, ◌*◌, ◌/◌, ◌%◌, ◌≤◌, ◌<◌}
use Rattle.std.proofs.Common.{sym, ◌∙◌, mod-lt, mod-eq_of_lt, div-lt_iff_lt-mul, mul-le-mul_left, arith}
use Rattle.std.proofs.Math.Nat.{mod-add-mod, mod-le, div-add-mod, add-mul-mod_self_left}
use borrow.Author.Tests.{leb-true, le-leb}
use Rattle.sizes.specs.Basics.{pick}
use Rattle.case_state.specs.Cursor.{Counts}
use Rattle.case_state.specs.Tests.{blocks_of, fewest, counts_ok}
use Rattle.case_state.proofs.Laws.Tests.{both}

-- ---- 1. on from one code to the next

-- a group begins
pub counts_first : (count at n : ℕ) → at < count → at ≤ n → n % 8 ≡ 0 → Counts count at n (n + 8)
counts_first count at n h k e = record {
  elements = at;
  blocks = 0;
  codes_enough = k;
  blocks_written = omega arith;
  blocks_before = omega arith;
  position = sym (mod-eq_of_lt h);
  bytes = omega arith;
}

-- a code without an element
pub counts_skip : {count at p n : ℕ} → p % 8 < 7 → Counts count at p n → Counts count at (p + 1) n
counts_skip {count} {at} {p} {n} h c = record {
  elements = c.elements;
  blocks = c.blocks;
  codes_enough = omega (arith, c.codes_enough);
  blocks_written = c.blocks_written;
  blocks_before = omega (arith, c.blocks_before);
  position = c.position;
  bytes = omega (arith, c.bytes);
}

next_position : (count e at : ℕ) → at ≡ e % count → (at + 1) % count ≡ (e + 1) % count
next_position count e at h = rw h (mod-add-mod e count 1)

-- with one
pub counts_gives : {count at p n : ℕ} → p % 8 < 7 → Counts count at p n → Counts count ((at + 1) % count) (p + 1) n
counts_gives {count} {at} {p} {n} h c = record {
  elements = c.elements + 1;
  blocks = c.blocks;
  codes_enough = omega (arith, c.codes_enough);
  blocks_written = omega (arith, c.blocks_written);
  blocks_before = omega (arith, c.blocks_before);
  position = next_position count c.elements at c.position;
  bytes = omega (arith, c.bytes);
}

-- with a block, of which m bytes are still to be taken
pub counts_block : {count at p n : ℕ} (m : ℕ) → p % 8 < 7 → n % 8 + m ≡ 8 → Counts count at p n → Counts count ((at + 1) % count) (p + 1) (n + m)
counts_block {count} {at} {p} {n} m h k c = record {
  elements = c.elements + 1;
  blocks = c.blocks + 1;
  codes_enough = omega (arith, c.codes_enough);
  blocks_written = omega (arith, c.blocks_written);
  blocks_before = omega (arith, c.blocks_before);
  position = next_position count c.elements at c.position;
  bytes = omega (arith, c.bytes);
}

-- a byte of a block that isn't its last
pub counts_byte : {count at p n : ℕ} → n % 8 < 7 → Counts count at p n → Counts count at p (n + 1)
counts_byte {count} {at} {p} {n} h c = record {
  elements = c.elements;
  blocks = c.blocks;
  codes_enough = c.codes_enough;
  blocks_written = c.blocks_written;
  blocks_before = c.blocks_before;
  position = c.position;
  bytes = omega (arith, c.bytes);
}

pub counts_place : {count at p n : ℕ} → Counts count at p n → (at ≤ p) × (p - p % 8 + 8 ≤ n - n % 8)
counts_place {count} {at} {p} {n} c = let l = mod-le c.elements count in (rw c.position (omega (arith, c.codes_enough)), omega (arith, c.bytes))

-- ---- 2. the test

module _ (count at : ℕ) (in_case : at < count) where
  abbrev rounds : ℕ → ℕ
  rounds b = (b - at + (count - 1)) / count

  fewest_position : (b : ℕ) → at ≡ fewest count at b % count
  fewest_position b = sym (add-mul-mod_self_left at count (rounds b) ∙ mod-eq_of_lt in_case)

  fewest_enough : (b : ℕ) → b ≤ fewest count at b
  fewest_enough b =
      let x = b - at + (count - 1) in
      let p : 0 < count = omega (arith, in_case) in
      omega (arith, div-add-mod x count, mod-lt x p)

  fewest_least : (b e : ℕ) → b ≤ e → at ≡ e % count → fewest count at b ≤ e
  fewest_least b e h k =
      let p : 0 < count = omega (arith, in_case) in
      let q = e / count in
      let whole : count * q + at ≡ e = rw k (div-add-mod e count) in
      let short : b - at + (count - 1) < suc q * count = omega (arith, in_case) in
      let l : rounds b ≤ q = omega (arith, (div-lt_iff_lt-mul p).1 short) in
      omega (arith, mul-le-mul_left count l)

  pub counts_sound : (p n : ℕ) → counts_ok count at p n ≡ true → Counts count at p n
  unfolding counts_ok
  counts_sound p n t =
      let t₁ = both _ _ t in let t₂ = both _ _ t₁.1 in
      let b = blocks_of p n in
      let l₁ = leb-true (p - p % 8 + 8) (n - n % 8) t₁.0 in
      record {
        elements = fewest count at b;
        blocks = b;
        codes_enough = leb-true (fewest count at b) p t₂.1;
        blocks_written = fewest_enough b;
        blocks_before = leb-true b (p % 8) t₂.0;
        position = fewest_position b;
        bytes = omega arith;
      }

  pub counts_complete : (p n : ℕ) → Counts count at p n → counts_ok count at p n ≡ true
  unfolding counts_ok pick
  counts_complete p n c =
      let e : blocks_of p n ≡ c.blocks = omega (arith, c.bytes) in
      let l₁ : p - p % 8 + 8 ≤ n - n % 8 = omega (arith, c.bytes) in
      let l₂ : blocks_of p n ≤ p % 8 = omega (arith, c.blocks_before) in
      let f = fewest_least c.blocks c.elements c.blocks_written c.position in
      let l₃ : fewest count at (blocks_of p n) ≤ p = rw e (omega (arith, c.codes_enough)) in
      rw (le-leb (p - p % 8 + 8) (n - n % 8) l₁, le-leb (blocks_of p n) (p % 8) l₂) (le-leb (fewest count at (blocks_of p n)) p l₃)

  -- it is less than a case more than the blocks
  pub fewest_below : (b : ℕ) → count * ((b - at + (count - 1)) / count) < b + count
  fewest_below b = omega (arith, in_case, div-add-mod (b - at + (count - 1)) count)
