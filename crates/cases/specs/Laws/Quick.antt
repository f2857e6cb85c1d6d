-- A step as a call sees it; and eight bytes at once, of a group and of a block, which leave what eight steps leave.
use Rattle.std.specs.Prelude.{◌≡◌, Bool, ℕ, suc, ◌+◌, ◌-◌, ◌/◌, ◌%◌, ◌^◌, ◌≤◌, ◌<◌, eqb, ltb, take, drop, get_or, Option, None, Some}
use Rattle.std.proofs.Math.Path.{refl}
use Rattle.std.proofs.Common.{sym, ap, ◌∙◌, length-drop, drop_of_length-le, drop-cons}
use Rattle.std.proofs.Math.Bool.{true, false}
use mathlib.Core.List.{List, [], ◌∷◌}
use native.Mathlib.Omega.{arith}
use Rattle.std.proofs.Math.ListN.{length, length-take}
use borrow.Author.Tests.{eqb-true, leb-true, ltb-true, ltb-false}
use Rattle.sizes.specs.Basics.{le, undigit, pick}
use Rattle.grammar.specs.Layout.{little, undigits, digits, Bytes}
use Rattle.layout.specs.Steps.Slices.{drop_bytes, take_bytes}
use Rattle.grammar.specs.Laws.Layout.Digits.{length_le, digits_undigits, undigits_lt}
use Rattle.case_stream.specs.Stream.{limit, block_code, block, says}
use Rattle.case_stream.specs.Machine.{gather, acting, fits, endless, has, after, next, moves, step, weight}
use Rattle.case_stream.specs.Laws.Steps.{μ}
use Rattle.case_stream.proofs.Laws.Steps.{after_weight, put_nil, falls_goes, step_falls}
use Rattle.case_stream.proofs.Laws.Compose.{less_nil}
use Rattle.case_stream.proofs.Laws.Whole.{room_goes, gather_whole, block_whole}
use Rattle.case_state.specs.declared.Cursor.{Cursor}
use Rattle.cases.specs.declared.steps.Moved.{Moved}
use Rattle.case_state.specs.Cursor.{act_at, view, Counts, Good}
use Rattle.cases.specs.Steps.{passed, offered, elements_of, wrote, step_of, silent, writing, Advances, Strides, Given, eight_at, whole}
use Rattle.case_state.proofs.Laws.Counting.{counts_first}
use Rattle.cases.specs.Laws.Goods.{good_act, view_gather, view_acting, view_passed, view_eight}
use Rattle.case_state.proofs.Laws.Tests.{both}
use Rattle.cases.specs.Laws.Agree.{block_says, says_block, good_block}

has_one : (r : ℕ) → has (fits (suc r)) ≡ true
unfolding has
has_one r = refl

-- ---- 1. one step

module _ (kind count bias : ℕ) (c : Cursor) (more : Bool) (b : ℕ) (s : List ℕ) where
  abbrev bytes : List ℕ
  bytes = offered more b s

  at_most : (n : ℕ) → n ≤ pick more 1 0 → n ≤ length bytes
  unfolding offered pick
  at_most n h = by more h
    where
      by : (t : Bool) → n ≤ pick t 1 0 → n ≤ length (pick t (b ∷ s) [])
      by true h = omega arith
      by false h = omega arith

  stepped : (kinds : List ℕ) → step kinds bias (view c) bytes endless ≡ moves kinds bias (view c) bytes
  unfolding step has pick
  stepped kinds = refl

  pub one_step : (m : Option Moved) → Advances kind count bias c more b m → Strides kind count bias c bytes m
  unfolding step_of
  one_step None a = record { stays = λ kinds l k. a.is kinds l k s }
  one_step (Some m) a = record {
    good = a.moved.1;
    inside = at_most m.takes a.moved.0;
    leads = λ kinds l k r. room_goes kinds bias (fits (suc r)) (has_one r) (view c) bytes (view m.cursor) (drop m.takes bytes) (wrote m) (a.is kinds l k s);
    falls = λ kinds l k. falls_goes kinds bias (step kinds bias (view c) bytes endless) (stepped kinds ∙ a.is kinds l k s) (step_falls kinds bias (view c) bytes endless);
  }

-- the bytes from a place on, by whether there is one
offers : (input : List ℕ) (i : ℕ) → drop i input ≡ offered (ltb i (length input)) (get_or input i 0) (drop (suc i) input)
unfolding offered pick
offers input i = by (ltb i (length input)) refl
  where
    by : (t : Bool) → ltb i (length input) ≡ t → drop i input ≡ pick t (get_or input i 0 ∷ drop (suc i) input) []
    by true t = drop-cons input i 0 (ltb-true i (length input) t)
    by false t = drop_of_length-le input (ltb-false i (length input) t)

-- a step with the input's next byte
pub steps_at : (kind count bias : ℕ) (c : Cursor) (input : List ℕ) (i : ℕ) (more : Bool) (m : Option Moved) → ltb i (length input) ≡ more → Advances kind count bias c more (get_or input i 0) m
    → Strides kind count bias c (drop i input) m
steps_at kind count bias c input i more m e a = rw (offers input i, e) (one_step kind count bias c more (get_or input i 0) (drop (suc i) input) m a)

-- ---- 2. eight bytes as a number

eight_taken : (s : List ℕ) (i : ℕ) → 8 ≤ length s - i → eight_at s i ≡ take 8 (drop i s)
unfolding eight_at
eight_taken s i h =
    let e₁ : i + 1 ≡ suc i = omega arith in
    let e₂ : i + 2 ≡ suc (suc i) = omega arith in
    let e₃ : i + 3 ≡ suc (suc (suc i)) = omega arith in
    let e₄ : i + 4 ≡ suc (suc (suc (suc i))) = omega arith in
    let e₅ : i + 5 ≡ suc (suc (suc (suc (suc i)))) = omega arith in
    let e₆ : i + 6 ≡ suc (suc (suc (suc (suc (suc i))))) = omega arith in
    let e₇ : i + 7 ≡ suc (suc (suc (suc (suc (suc (suc i)))))) = omega arith in
    rw (
      e₁,
      e₂,
      e₃,
      e₄,
      e₅,
      e₆,
      e₇,
      drop-cons s i 0 (omega arith),
      drop-cons s (suc i) 0 (omega arith),
      drop-cons s (suc (suc i)) 0 (omega arith),
      drop-cons s (suc (suc (suc i))) 0 (omega arith),
      drop-cons s (suc (suc (suc (suc i)))) 0 (omega arith),
      drop-cons s (suc (suc (suc (suc (suc i))))) 0 (omega arith),
      drop-cons s (suc (suc (suc (suc (suc (suc i)))))) 0 (omega arith),
      drop-cons s (suc (suc (suc (suc (suc (suc (suc i))))))) 0 (omega arith),
    )

pub eight_bytes : (s : List ℕ) (i x : ℕ) → Bytes s → 8 ≤ length s - i → x ≡ undigit (eight_at s i) → (le 8 x ≡ take 8 (drop i s)) × (x < 256 ^ 8)
unfolding undigits digits
eight_bytes s i x bs h e =
    let n : length (take 8 (drop i s)) ≡ 8 = omega (arith, length-take 8 (drop i s), length-drop i s) in
    let b : Bytes (take 8 (drop i s)) = take_bytes 8 (drop_bytes i bs) in
    let v : x ≡ undigits little (take 8 (drop i s)) = e ∙ ap undigit (eight_taken s i h) in
    (rw v (digits_undigits little 8 (take 8 (drop i s)) b n), rw v (undigits_lt little 8 (take 8 (drop i s)) b n))

-- ---- 3. a group, a block

module _ (kind count bias : ℕ) (c : Cursor) (g : Good count c) (s : List ℕ) (x : ℕ) (there : 8 ≤ length s) (early : c.taken + 8 ≤ limit) (is_x : le 8 x ≡ take 8 s) (small : x < 256 ^ 8) where
  left_8 : length (drop 8 s) ≡ length s - 8
  left_8 = length-drop 8 s

  module _ (e₀ : c.phase ≡ 0) (e : eqb c.left 0 ≡ true) where
    abbrev d : Cursor
    d = act_at c.at (c.taken + 8) c.taken x 8 0 0

    held : (c.left ≡ c.taken % 8) × (c.at ≤ c.taken - c.left) × (c.place ≡ 0) × (c.filled ≡ 0)
    held = g.gathers e₀

    empty : c.left ≡ 0
    empty = eqb-true c.left 0 e

    from : view c ≡ gather c.at c.taken []
    unfolding le
    from = view_gather c e₀ ∙ rw empty

    to : view d ≡ after c.at (c.taken + 8) (c.taken + 8 - 8) (take 8 s)
    to = let f : c.taken + 8 - 8 ≡ c.taken = omega arith in sym (view_eight c.at c.taken x) ∙ rw (is_x, f)

    good_group : Good count d
    good_group = good_act count c.at (c.taken + 8) c.taken x 8 0 0 g.at_in (omega (arith, held, empty)) (omega (arith, held, empty)) (λ k. absurd (omega arith))
        (counts_first count c.at c.taken g.at_in (omega (arith, held)) (omega (arith, held, empty))) small (omega arith)

    lighter : μ (view d) (drop 8 s) < μ (view c) s
    unfolding weight
    lighter =
        let n : length (take 8 s) ≡ 8 = omega (arith, length-take 8 s) in
        rw (from, to) (omega (arith, left_8, after_weight c.at (c.taken + 8) (c.taken + 8 - 8) (take 8 s)))

    pub whole_group : Strides kind count bias c s (silent d 8)
    unfolding elements_of pick
    whole_group = record {
      good = good_group;
      inside = there;
      leads = λ kinds l k r.
          rw (from, to, less_nil, put_nil) (gather_whole kinds bias (fits (suc r)) (has_one r) 7 c.at c.taken [] s refl there early);
      falls = λ kinds l k. lighter;
    }

  module _ (e₁ : c.phase ≡ 1) (code : c.codes % 256 ≡ block_code) (f : eqb c.filled 0 ≡ true) where
    abbrev d' : Cursor
    d' = passed c ((c.at + 1) % count) (c.taken + 8)

    none_filled : c.filled ≡ 0
    none_filled = eqb-true c.filled 0 f

    acting_now : (c.left ≡ 8 - c.place % 8) × (c.filled ≡ c.taken % 8) × (0 < c.filled → c.codes % 256 ≡ block_code) × Counts count c.at c.place c.taken
    acting_now = g.acts e₁

    abbrev behind : List ℕ
    behind = le (c.left - 1) (c.codes / 256)

    some : 0 < c.left
    some = omega (arith, acting_now.0)

    from_block : view c ≡ acting c.at c.taken c.place (c.codes % 256) behind []
    unfolding le
    from_block = view_acting c e₁ ∙ rw none_filled

    to_block : view d' ≡ after ((c.at + 1) % count) (c.taken + 8) (c.place + 1) behind
    to_block = view_passed c ((c.at + 1) % count) (c.taken + 8) some

    lighter_block : μ (view d') (drop 8 s) < μ (view c) s
    unfolding weight
    lighter_block =
        rw (from_block, to_block) (omega (arith, left_8, length_le (c.left - 1) (c.codes / 256), acting_now.0, after_weight ((c.at + 1) % count) (c.taken + 8) (c.place + 1) behind))

    pub whole_block : Strides kind count bias c s (writing d' 8 x)
    unfolding elements_of pick next
    whole_block = record {
      good = good_block kind count bias c 0 g e₁ 8 (omega (arith, acting_now.1, none_filled));
      inside = there;
      leads = λ kinds l k r.
          rw (from_block, to_block, is_x, ← l) (block_whole kinds bias (fits (suc r)) (has_one r) c.at c.place (c.codes % 256) behind (rw k (block_says kind bias (c.codes % 256) code)) 7 c.taken [] s refl there early);
      falls = λ kinds l k. lighter_block;
    }

-- ---- 4. where the eight bytes are there

module _ (kind count bias : ℕ) (c : Cursor) (g : Good count c) (s : List ℕ) (i held : ℕ) (t : whole c held (length s - i) ≡ true) where
  pub whole_in : (8 ≤ length s - i) × (c.taken + 8 ≤ limit) × (eqb held 0 ≡ true)
  unfolding whole
  whole_in =
      let a = both _ _ t in
      let b = both _ _ a.1 in
      (leb-true 8 (length s - i) a.0, omega (arith, leb-true c.taken (limit - 8) b.0), b.1)

  there_8 : 8 ≤ length (drop i s)
  there_8 = omega (arith, whole_in.0, length-drop i s)

  module _ (x : ℕ) (bs : Bytes s) (e : x ≡ undigit (eight_at s i)) where
    abbrev eight : (le 8 x ≡ take 8 (drop i s)) × (x < 256 ^ 8)
    eight = eight_bytes s i x bs whole_in.0 e

    pub group_of : held ≡ c.left → c.phase ≡ 0 → Strides kind count bias c (drop i s) (silent (act_at c.at (c.taken + 8) c.taken x 8 0 0) 8)
    group_of h e₀ = whole_group kind count bias c g (drop i s) x there_8 whole_in.1 eight.0 eight.1 e₀ (rw h at whole_in.2)

    pub block_of : held ≡ c.filled → c.phase ≡ 1 → says kind bias (c.codes % 256) ≡ block
        → Strides kind count bias c (drop i s) (writing (passed c ((c.at + 1) % count) (c.taken + 8)) 8 x)
    block_of h e₁ q = whole_block kind count bias c g (drop i s) x there_8 whole_in.1 eight.0 eight.1 e₁ (says_block kind bias (c.codes % 256) q) (rw h at whole_in.2)

-- ---- 5. a code that gives an element

pub given : (kind count bias : ℕ) (c d : Cursor) (x : ℕ) → ((more : Bool) (b : ℕ) → Advances kind count bias c more b (writing d 0 x)) → Given kind count bias c d x
given kind count bias c d x a = λ input i. steps_at kind count bias c input i _ _ refl (a _ _)
