-- A byte stored as two, whether it becomes one or two: what a byte under 128 has too many is overwritten by what follows.
use Rattle.std.specs.Prelude.{◌≡◌, refl, List, [], ◌∷◌, ℕ, ◌+◌, ◌-◌, ◌/◌, ◌%◌, ◌≤◌, ◌<◌, ltb, length, get_or, drop, set}
use Rattle.std.proofs.Common.{sym, ap, ◌∙◌, ⊎_elim, add-one, arith, length-set, lt-ltb, le-ltb}
use Rattle.std.proofs.lemmas.List.Edits.{sets}
use Rattle.sizes.specs.Basics.{pick}
use Rattle.convert.specs.Pages.{page_count, ascii, no_byte, page, code_point}
use Rattle.convert.specs.Utf8.{two_bytes, three_bytes, four_bytes, encode}
use Rattle.convert.specs.Convert.{to, output}
use Rattle.convert.proofs.Laws.Pages.{side, rule, point_low}
use Rattle.convert.proofs.Laws.Utf8.{encode_one, encode_two, encode_length}
use Rattle.codepages.specs.Laws.Passes.{Passes, skips, overwritten, Ready, Wrote, wrote}
use Rattle.codepages.specs.Laws.Branches.{point_none, point_entry, put_two, to_ready}

-- the first of the two bytes for a byte b and the entry e
unfoldable pub first_of : ℕ → ℕ → ℕ
first_of b e = pick (ltb b ascii) b (192 + e / 64)

pub first_low : (b e : ℕ) → b < ascii → b ≡ first_of b e
unfolding first_of pick
first_low b e h = rw (lt-ltb b ascii h)

pub first_high : (b e : ℕ) → ascii ≤ b → 192 + e / 64 ≡ first_of b e
unfolding first_of pick
first_high b e h = rw (le-ltb b ascii h)

-- what follows a byte that isn't the last is not empty
follows : {k : ℕ} {u : List ℕ} {i : ℕ} {o : List ℕ} {w : ℕ} {x : List ℕ} → k < page_count → i + 1 < length u → Passes (to k) u i 1 x → Ready (to k) u i o w → 0 < length (output (to k) 0 (drop (i + 1) u))
follows {k} {u} {i} {o} {w} {x} hk h p t =
    let s = skips p in
    let r : Ready (to k) u (i + 1) o (w + length x) = record { ends = sym p.goes ∙ t.ends; roomy = omega (arith, t.roomy, s.counts) } in
    let c = code_point k (get_or u (i + 1) 0) in
    let q = to_ready k u (i + 1) c refl hk h r in
    omega (arith, (skips q.1).counts, (encode_length c).0)

module _ (k : ℕ) (u : List ℕ) (i : ℕ) (o : List ℕ) (w b e : ℕ) (hk : k < page_count) (h : i + 1 < length u) (eb : b ≡ get_or u i 0) (hb : b < no_byte) (ee : e ≡ get_or (page k) (b % 128) 0) (he : e < three_bytes)
    (t : Ready (to k) u i o w) where
  point : (code_point k b < four_bytes) × Passes (to k) u i 1 (encode (code_point k b))
  point = to_ready k u i (code_point k b) (ap (code_point k) eb) hk (omega arith) t

  -- a byte from 128 on has the entry as its code point
  high_entry : ascii ≤ b → (two_bytes ≤ e) × (e ≡ code_point k b)
  high_entry l =
      let z : b % 128 ≡ b - ascii = omega arith in
      let q : e ≡ get_or (page k) (b - ascii) 0 = rw z at ee in
      ⊎_elim (λ (m : e < 1). let y : e ≡ 0 = omega arith in absurd (omega (arith, point.0, point_none k b e l q y)))
      (λ (m : 1 ≤ e).
      let g = sym q in
      let r = rw g at (rule k hk (b - ascii) (omega arith) (rw g m)) in
      (r.above, point_entry k b e l q (λ y. omega arith)))
      (side e 1)

  pub pair_fits : w + 1 < length o
  pair_fits = ⊎_elim low high (side b ascii)
    where
      low : b < ascii → w + 1 < length o
      low l = omega (arith, t.roomy, (skips point.1).counts, follows hk h point.1 t, (encode_length (code_point k b)).0)

      high : ascii ≤ b → w + 1 < length o
      high l =
          let q = high_entry l in
          let n : length (encode (code_point k b)) ≡ 2 = rw (← q.1, encode_two e q.0 he) in
          omega (arith, t.roomy, (skips point.1).counts, n)

  pub pair_wrote : Wrote (to k) u i o w 1 (1 + b / 128) (set (set o w (first_of b e)) (w + 1) (128 + e % 64))
  pair_wrote = ⊎_elim low high (side b ascii)
    where
      low : b < ascii → Wrote (to k) u i o w 1 (1 + b / 128) (set (set o w (first_of b e)) (w + 1) (128 + e % 64))
      low l =
          let one : encode (code_point k b) ≡ b ∷ [] = rw (point_low k b l) (encode_one b l) in
          let p : Passes (to k) u i 1 (b ∷ []) = rw one at point.1 in
          let z : 1 + b / 128 ≡ 1 = omega arith in
          let v = output (to k) 0 (drop (i + 1) u) in
          let g = 128 + e % 64 in
          let f : sets (set (set o w b) (w + 1) g) (w + 1) v ≡ sets (set o w b) (w + 1) v = overwritten (g ∷ []) v (set o w b) (w + 1) (follows hk h p t) in
          rw (z, ← first_low b e l) (record {
            some = omega arith;
            skipped = skips p;
            same = length-set (set o w b) (w + 1) g ∙ length-set o w b;
            fills = f ∙ rw (p.writes, add-one w);
          })

      high : ascii ≤ b → Wrote (to k) u i o w 1 (1 + b / 128) (set (set o w (first_of b e)) (w + 1) (128 + e % 64))
      high l =
          let q = high_entry l in
          let p : Passes (to k) u i 1 (encode e) = rw (← q.1) at point.1 in
          let s = put_two o w e q.0 he in
          let z : 1 + b / 128 ≡ 2 = omega arith in
          rw (z, ← first_high b e l, s.1) (wrote p (omega arith) s.0)
