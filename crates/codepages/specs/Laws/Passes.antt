-- Both passes over a text, for either direction: several characters at a time are measured, and then written.
use Rattle.std.specs.Prelude.{◌≡◌, refl, Bool, true, false, List, [], ◌∷◌, ◌++◌, ℕ, zero, suc, ◌+◌, ◌≤◌, ◌<◌, length, get_or, take, drop, set}
use Rattle.std.proofs.Common.{sym, ap, ◌∙◌, ⊎_elim, arith, length-append, length-drop, drop_of_length-le, drop-drop, drop-cons}
use Rattle.std.proofs.lemmas.List.Edits.{sets}
use Rattle.std.proofs.Math.Seq.{length-sets}
use Rattle.convert.specs.Pages.{ascii}
use Rattle.convert.specs.Utf8.{decode}
use Rattle.convert.specs.Convert.{Step, invalid, converts, to, from, way, valid_up_to, output}
use Rattle.convert.proofs.Laws.Pages.{side, point_low, byte_low}
use Rattle.convert.proofs.Laws.Utf8.{encode_one, row_one_is}
use Rattle.convert.proofs.Laws.Steps.{up_to_step, output_step, up_to_invalid, output_invalid, up_to_end, output_end, to_converts, from_converts}
use Rattle.ascii.specs.Runs.{Ascii}

-- a slice is shorter than that
abbrev pub half : ℕ
half = 9223372036854775808

-- ---- characters at a place

-- the n bytes at place i are whole characters, for which o is written
pub record Passes (f : List ℕ → Step) (u : List ℕ) (i n : ℕ) (o : List ℕ) : Type 0 where
  pub inside : i + n ≤ length u
  pub goes : valid_up_to f 0 i (drop i u) ≡ valid_up_to f 0 (i + n) (drop (i + n) u)
  pub writes : output f 0 (drop i u) ≡ o ++ output f 0 (drop (i + n) u)

pub passes_one : {f : List ℕ → Step} {u : List ℕ} {i : ℕ} (m : ℕ) (o : List ℕ) → f (drop i u) ≡ converts m o → i + suc m ≤ length u → Passes f u i (suc m) o
passes_one {f} {u} {i} m o e h =
    let l : suc m ≤ length (drop i u) = omega (arith, length-drop i u) in
    let d = drop-drop (suc m) i u in
    record { inside = h; goes = rw d at (up_to_step f i (drop i u) m o e l); writes = rw d at (output_step f (drop i u) m o e l) }

-- ---- runs of bytes under 128

-- in either direction such a byte stands for itself
pub plain : (back : Bool) (k a : ℕ) (u : List ℕ) → a < ascii → way back k (a ∷ u) ≡ converts 0 (a ∷ [])
unfolding way decode
plain false k a u h = to_converts k (a ∷ u) a (point_low k a h) (omega arith) ∙ rw (encode_one a h)
plain true k a u h = from_converts k (a ∷ u) a a (row_one_is a _ _ _ h) (byte_low k a h) (omega arith) ∙ rw (encode_one a h)

-- a way to convert in which bytes under 128 stand for themselves
pub record Plain (f : List ℕ → Step) : Type 0 where
  pub itself : (a : ℕ) (u : List ℕ) → a < ascii → f (a ∷ u) ≡ converts 0 (a ∷ [])

pub plain_to : (k : ℕ) → Plain (to k)
unfolding way
plain_to k = record { itself = λ a u h. plain false k a u h }

pub plain_from : (k : ℕ) → Plain (from k)
unfolding way
plain_from k = record { itself = λ a u h. plain true k a u h }

pub passes_ascii : {f : List ℕ → Step} → Plain f → (u : List ℕ) (i n : ℕ) → i + n ≤ length u → Ascii u i n → Passes f u i n (take n (drop i u))
passes_ascii {f} p u i zero h a = let z : i + 0 ≡ i = omega arith in record { inside = h; goes = rw z; writes = rw z }
passes_ascii {f} p u i (suc n) h a =
    let c = drop-cons u i 0 (omega arith) in
    let z : i + 0 ≡ i = omega arith in
    let b = get_or u i 0 in
    let l : b < ascii = rw z at (a.under 0 (omega arith)) in
    let e : f (drop i u) ≡ converts 0 (b ∷ []) = rw c (p.itself b (drop (suc i) u) l) in
    let s = passes_one {f = f} {u = u} {i = i} 0 (b ∷ []) e (omega arith) in
    let y : i + 1 ≡ suc i = omega arith in
    let r : Ascii u (suc i) n = record { under = λ j m. let x : suc i + j ≡ i + suc j = omega arith in rw x (a.under (suc j) (omega arith)) } in
    let q = passes_ascii p u (suc i) n (omega arith) r in
    let x : suc i + n ≡ i + suc n = omega arith in
    record {
      inside = h;
      goes = s.goes ∙ (rw (← y) at (rw x at q.goes));
      writes = s.writes ∙ rw (c, y) (ap (λ (v : List ℕ). b ∷ v) (rw x at q.writes));
    }

-- ---- the first pass

-- n bytes at place i are passed, for which m are written
pub record Skips (f : List ℕ → Step) (u : List ℕ) (i n m : ℕ) : Type 0 where
  pub inside : i + n ≤ length u
  pub goes : valid_up_to f 0 i (drop i u) ≡ valid_up_to f 0 (i + n) (drop (i + n) u)
  pub counts : length (output f 0 (drop i u)) ≡ m + length (output f 0 (drop (i + n) u))

pub skips : {f : List ℕ → Step} {u : List ℕ} {i n : ℕ} {o : List ℕ} → Passes f u i n o → Skips f u i n (length o)
skips {f} {u} {i} {n} {o} p = record { inside = p.inside; goes = p.goes; counts = ap length p.writes ∙ length-append o (output f 0 (drop (i + n) u)) }

pub skips_more : {f : List ℕ → Step} {u : List ℕ} {i n m s r : ℕ} → Skips f u i n m → Skips f u (i + n) s r → Skips f u i (n + s) (m + r)
skips_more {f} {u} {i} {n} {m} {s} {r} a b =
    let z : i + n + s ≡ i + (n + s) = omega arith in
    record { inside = omega (arith, b.inside); goes = a.goes ∙ (rw z at b.goes); counts = omega (arith, a.counts, rw z at b.counts) }

-- what is found at place i: a character that is refused, or bytes that are passed
pub record Found (f : List ℕ → Step) (u : List ℕ) (i taken made : ℕ) : Type 0 where
  pub refused : taken ≡ 0 → f (drop i u) ≡ invalid
  pub passed : 0 < taken → Skips f u i taken made
  pub small : made < half

pub found_none : {f : List ℕ → Step} {u : List ℕ} {i : ℕ} → f (drop i u) ≡ invalid → Found f u i 0 0
found_none e = record { refused = λ _. e; passed = λ h. absurd (omega arith); small = omega arith }

pub found_some : {f : List ℕ → Step} {u : List ℕ} {i n m : ℕ} → 0 < n → Skips f u i n m → m < half → Found f u i n m
found_some h s l = record { refused = λ e. absurd (omega arith); passed = λ _. s; small = l }

-- a sum that grows no more once it is above the room
pub record Grown (n s room r : ℕ) : Type 0 where
  pub grows : n ≤ room → r ≡ n + s
  pub stays : room < n → r ≡ n

-- a sum that is exact up to the room, and above it if the whole is
pub record Counts (room n whole : ℕ) : Type 0 where
  pub exact : n ≤ room → n ≡ whole
  pub over : room < n → room < whole

pub record Tally (f : List ℕ → Step) (u : List ℕ) (room i n : ℕ) : Type 0 where
  pub inside : i ≤ length u
  pub goes : valid_up_to f 0 0 u ≡ valid_up_to f 0 i (drop i u)
  pub exact : n ≤ room → length (output f 0 u) ≡ n + length (output f 0 (drop i u))
  pub over : room < n → room < length (output f 0 u)

pub tally : (f : List ℕ → Step) (u : List ℕ) (room : ℕ) → Tally f u room 0 0
tally f u room = record { inside = omega arith; goes = refl; exact = λ h. omega arith; over = λ h. absurd (omega arith) }

module _ {f : List ℕ → Step} {u : List ℕ} {room i n : ℕ} (t : Tally f u room i n) where
  pub tally_step : {m s : ℕ} (n' : ℕ) → Skips f u i m s → Grown n s room n' → Tally f u room (i + m) n'
  tally_step n' p g =
      record {
        inside = p.inside;
        goes = t.goes ∙ p.goes;
        exact = λ b. ⊎_elim (λ (r : room < n). absurd (omega (arith, g.stays r))) (λ (r : n ≤ room). omega (arith, g.grows r, t.exact r, p.counts)) (side room n);
        over = λ b. ⊎_elim (λ (r : room < n). t.over r) (λ (r : n ≤ room). omega (arith, g.grows r, t.exact r, p.counts)) (side room n);
      }

  pub tally_refused : f (drop i u) ≡ invalid → (i ≡ valid_up_to f 0 0 u) × Counts room n (length (output f 0 u))
  tally_refused e =
      let z = ap length (output_invalid f (drop i u) e) in
      (sym (t.goes ∙ up_to_invalid f i (drop i u) e), record { exact = λ h. omega (arith, t.exact h, z); over = t.over })

  pub tally_end : length u ≤ i → (i ≡ valid_up_to f 0 0 u) × Counts room n (length (output f 0 u))
  tally_end h =
      let d = drop_of_length-le u {i = i} h in
      let z : length (output f 0 (drop i u)) ≡ 0 = rw d (ap length (output_end f)) in
      let y : valid_up_to f 0 i (drop i u) ≡ i = rw d (up_to_end f i) in
      (sym (t.goes ∙ y), record { exact = λ b. omega (arith, t.exact b, z); over = t.over })

-- ---- the second pass

pub sets_append : (vs ws l : List ℕ) (i : ℕ) → sets l i (vs ++ ws) ≡ sets (sets l i vs) (i + length vs) ws
sets_append [] ws l i = let e : i + 0 ≡ i = omega arith in rw e
sets_append (v ∷ vs) ws l i = let e : i + suc (length vs) ≡ suc i + length vs = omega arith in rw e (sets_append vs ws (set l i v) (suc i))

set_set : (l : List ℕ) (i x y : ℕ) → set (set l i x) i y ≡ set l i y
set_set [] i x y = refl
set_set (a ∷ l) zero x y = refl
set_set (a ∷ l) (suc i) x y = ap (λ (v : List ℕ). a ∷ v) (set_set l i x y)

set_apart : (l : List ℕ) (i j x y : ℕ) → i < j → set (set l j x) i y ≡ set (set l i y) j x
set_apart [] i j x y h = refl
set_apart (a ∷ l) i zero x y h = absurd (omega arith)
set_apart (a ∷ l) zero (suc j) x y h = refl
set_apart (a ∷ l) (suc i) (suc j) x y h = ap (λ (v : List ℕ). a ∷ v) (set_apart l i j x y (omega arith))

set_before : (g l : List ℕ) (i j y : ℕ) → i < j → set (sets l j g) i y ≡ sets (set l i y) j g
set_before [] l i j y h = refl
set_before (x ∷ g) l i j y h = set_before g (set l j x) i (suc j) y (omega arith) ∙ rw (set_apart l i j x y h)

-- what is written over what is no longer leaves nothing of it
pub overwritten : (g v l : List ℕ) (i : ℕ) → length g ≤ length v → sets (sets l i g) i v ≡ sets l i v
overwritten [] v l i h = refl
overwritten (x ∷ g) [] l i h = absurd (omega arith)
overwritten (x ∷ g) (y ∷ v) l i h = rw (set_before g (set l i x) i (suc i) y (omega arith), set_set l i x y) (overwritten g v (set l i y) (suc i) (omega arith))

-- what is known before the characters at place i are written at place w: none is refused, and there is room
pub record Ready (f : List ℕ → Step) (u : List ℕ) (i : ℕ) (o : List ℕ) (w : ℕ) : Type 0 where
  pub ends : valid_up_to f 0 i (drop i u) ≡ length u
  pub roomy : w + length (output f 0 (drop i u)) ≤ length o

-- and after that: n bytes were taken, m written
pub record Wrote (f : List ℕ → Step) (u : List ℕ) (i : ℕ) (o : List ℕ) (w n m : ℕ) (o' : List ℕ) : Type 0 where
  pub some : 0 < n
  pub skipped : Skips f u i n m
  pub same : length o' ≡ length o
  pub fills : sets o' (w + m) (output f 0 (drop (i + n) u)) ≡ sets o w (output f 0 (drop i u))

module _ {f : List ℕ → Step} {u : List ℕ} {i : ℕ} {o : List ℕ} {w : ℕ} (t : Ready f u i o w) where
  pub not_refused : i < length u → f (drop i u) ≡ invalid → ⊥
  not_refused h e = omega (arith, t.ends, up_to_invalid f i (drop i u) e)

  pub fits : {n : ℕ} {x : List ℕ} → Passes f u i n x → w + length x ≤ length o
  fits p = omega (arith, t.roomy, (skips p).counts)

pub wrote : {f : List ℕ → Step} {u : List ℕ} {i : ℕ} {o : List ℕ} {w n : ℕ} {x o' : List ℕ} → Passes f u i n x → 0 < n → o' ≡ sets o w x → Wrote f u i o w n (length x) o'
wrote {f} {u} {i} {o} {w} {n} {x} p h e = record {
  some = h;
  skipped = skips p;
  same = ap length e ∙ length-sets o w x;
  fills = rw (e, p.writes) (sym (sets_append x (output f 0 (drop (i + n) u)) o w));
}

-- the bytes from place s on are written from place v of the output on; now place i is reached, and w in the output
pub record Writing (f : List ℕ → Step) (u : List ℕ) (s v : ℕ) (o₀ o : List ℕ) (i w : ℕ) : Type 0 where
  pub inside : i ≤ length u
  pub ready : Ready f u i o w
  pub same : length o ≡ length o₀
  pub fills : sets o w (output f 0 (drop i u)) ≡ sets o₀ v (output f 0 (drop s u))

pub writing : {f : List ℕ → Step} {u : List ℕ} {s v : ℕ} {o : List ℕ} → s ≤ length u → Ready f u s o v → Writing f u s v o o s v
writing h t = record { inside = h; ready = t; same = refl; fills = refl }

module _ {f : List ℕ → Step} {u : List ℕ} {s v : ℕ} {o₀ o : List ℕ} {i w : ℕ} (t : Writing f u s v o₀ o i w) where
  pub writing_step : {n m : ℕ} {o' : List ℕ} → Wrote f u i o w n m o' → Writing f u s v o₀ o' (i + n) (w + m)
  writing_step p = record {
    inside = p.skipped.inside;
    ready = record { ends = sym p.skipped.goes ∙ t.ready.ends; roomy = omega (arith, t.ready.roomy, p.skipped.counts, p.same) };
    same = p.same ∙ t.same;
    fills = p.fills ∙ t.fills;
  }

  pub writing_end : length u ≤ i → o ≡ sets o₀ v (output f 0 (drop s u))
  writing_end h =
      let d = drop_of_length-le u {i = i} h in
      let z : output f 0 (drop i u) ≡ [] = rw d (output_end f) in
      rw z at t.fills
