-- A block of bytes stored whole, of which those before the first that isn't under 128 count: what follows overwrites the others.
use Rattle.std.specs.Prelude.{◌≡◌, List, ◌++◌, ℕ, ◌+◌, ◌-◌, ◌≤◌, length, take, drop}
use Rattle.std.proofs.Common.{sym, ap, ◌∙◌, arith, length-drop, length-take-le, take-add}
use Rattle.std.proofs.lemmas.List.Edits.{sets}
use Rattle.std.proofs.Math.Seq.{length-sets}
use Rattle.convert.specs.Convert.{Step, output}
use Rattle.ascii.specs.Runs.{block, Ascii}
use Rattle.codepages.specs.Laws.Passes.{Plain, passes_ascii, Passes, Skips, skips, skips_more, sets_append, overwritten, Ready, Wrote}

module _ {f : List ℕ → Step} (p : Plain f) (u : List ℕ) (i n : ℕ) (o : List ℕ) (w : ℕ) (o' : List ℕ) (h : i + block ≤ length u) (c : (n ≤ block) × Ascii u i n) (t : Ready f u i o w)
    (m : block ≤ length (output f 0 (drop i u))) (e : o' ≡ sets o w (take block (drop i u))) where
  counted : Passes f u i n (take n (drop i u))
  counted = passes_ascii p u i n (omega (arith, c.0)) c.1

  counted_length : length (take n (drop i u)) ≡ n
  counted_length = length-take-le n (drop i u) (omega (arith, length-drop i u, c.0))

  counted_skips : Skips f u i n n
  counted_skips = rw counted_length at (skips counted)

  same : length o' ≡ length o
  same = ap length e ∙ length-sets o w (take block (drop i u))

  -- as if they alone had been stored
  fills : sets o' (w + n) (output f 0 (drop (i + n) u)) ≡ sets o w (output f 0 (drop i u))
  fills =
      let x = take n (drop i u) in
      let g = take (block - n) (drop n (drop i u)) in
      let v = output f 0 (drop (i + n) u) in
      let z : n + (block - n) ≡ block = omega (arith, c.0) in
      let s : take block (drop i u) ≡ x ++ g = rw z at (take-add n (block - n) (drop i u)) in
      let j : sets o w (x ++ g) ≡ sets (sets o w x) (w + n) g = rw counted_length at (sets_append x g o w) in
      let q : sets o w (x ++ v) ≡ sets (sets o w x) (w + n) v = rw counted_length at (sets_append x v o w) in
      let d : length g ≡ block - n = length-take-le (block - n) (drop n (drop i u)) (omega (arith, length-drop n (drop i u), length-drop i u)) in
      rw (e, s, j, overwritten g v (sets o w x) (w + n) (omega (arith, counted_skips.counts, d)), counted.writes) (sym q)

  pub block_ready : Ready f u (i + n) o' (w + n)
  block_ready = record { ends = sym counted_skips.goes ∙ t.ends; roomy = omega (arith, t.roomy, counted_skips.counts, same) }

  pub block_wrote : n ≡ block → Wrote f u i o w n n o'
  block_wrote b = record { some = omega arith; skipped = counted_skips; same = same; fills = fills }

  -- and the character after them
  pub block_then : {s r : ℕ} {o'' : List ℕ} → Wrote f u (i + n) o' (w + n) s r o'' → Wrote f u i o w (n + s) (n + r) o''
  block_then {s} {r} {o''} b =
      let x : i + n + s ≡ i + (n + s) = omega arith in
      let y : w + n + r ≡ w + (n + r) = omega arith in
      record { some = omega (arith, b.some); skipped = skips_more counted_skips b.skipped; same = b.same ∙ same; fills = (rw (x, y) at b.fills) ∙ fills }

  pub block_made : {s r : ℕ} {o'' : List ℕ} → Wrote f u (i + n) o' (w + n) s r o'' → n + r ≤ length o
  block_made b = omega (arith, (block_then b).skipped.counts, t.roomy)
