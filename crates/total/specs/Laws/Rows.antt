-- Rows of words, all of one length.
use Rattle.std.specs.Prelude.{◌≡◌, Bool, drop, set}
use Rattle.std.proofs.Math.Path.{refl, sym, ap}
use Rattle.std.proofs.Common.{◌∙◌, mul-zero, mul-suc, arith, length-append, take_at, drop-drop}
use Rattle.std.proofs.Math.Bool.{true, false}
use mathlib.Core.List.{List, [], ◌∷◌, ◌++◌, append_assoc}
use Prim.Native.Nat.{ℕ, zero, suc, ◌+◌, ◌*◌, ◌≤◌, ◌<◌}
use Rattle.std.proofs.Math.ListN.{length, take, get_or, get_or-append}
use Rattle.std.proofs.Math.Seq.{sets, drop_at, get_or-append-add}
use Rattle.std.proofs.lemmas.List.Edits.{sets-eq}
use Rattle.std.proofs.Math.Dec.{eqb}
use borrow.Author.Tests.{eqb-true, eqb-false, eq-eqb, ne_eqb}
use Rattle.sizes.specs.Basics.{pick}
use Rattle.total.specs.Words.{rows}

-- the words of a row, one after the other
pub eleven_sets : (ws : List ℕ) (i w0 w1 w2 w3 w4 w5 w6 w7 w8 w9 w10 : ℕ)
    → set (set (set (set (set (set (set (set (set (set (set ws i w0) (i + 1) w1) (i + 2) w2) (i + 3) w3) (i + 4) w4) (i + 5) w5) (i + 6) w6) (i + 7) w7) (i + 8) w8) (i + 9) w9) (i + 10) w10 ≡ sets ws i (w0 ∷ w1 ∷ w2 ∷ w3 ∷ w4 ∷ w5 ∷ w6 ∷ w7 ∷ w8 ∷ w9 ∷ w10 ∷ [])
eleven_sets ws i w0 w1 w2 w3 w4 w5 w6 w7 w8 w9 w10 =
    let e1 : i + 1 ≡ suc i = omega arith in
    let e2 : i + 2 ≡ suc (suc i) = omega arith in
    let e3 : i + 3 ≡ suc (suc (suc i)) = omega arith in
    let e4 : i + 4 ≡ suc (suc (suc (suc i))) = omega arith in
    let e5 : i + 5 ≡ suc (suc (suc (suc (suc i)))) = omega arith in
    let e6 : i + 6 ≡ suc (suc (suc (suc (suc (suc i))))) = omega arith in
    let e7 : i + 7 ≡ suc (suc (suc (suc (suc (suc (suc i)))))) = omega arith in
    let e8 : i + 8 ≡ suc (suc (suc (suc (suc (suc (suc (suc i))))))) = omega arith in
    let e9 : i + 9 ≡ suc (suc (suc (suc (suc (suc (suc (suc (suc i)))))))) = omega arith in
    let e10 : i + 10 ≡ suc (suc (suc (suc (suc (suc (suc (suc (suc (suc i))))))))) = omega arith in
    rw (e1, e2, e3, e4, e5, e6, e7, e8, e9, e10)

-- ---- rows

pub rows_same : (f g : ℕ → List ℕ) (n : ℕ) → ((j : ℕ) → j < n → f j ≡ g j) → rows f n ≡ rows g n
unfolding rows
rows_same f g zero h = refl
rows_same f g (suc n) h = rw (rows_same f g n (λ j l. h j (omega arith)), h n (omega arith))

module _ (k : ℕ) (f : ℕ → List ℕ) (width : (j : ℕ) → length (f j) ≡ k) where
  pub rows_length : (n : ℕ) → length (rows f n) ≡ k * n
  unfolding rows
  rows_length zero = sym (mul-zero k)
  rows_length (suc n) = rw (length-append, rows_length n, width n) (sym (mul-suc k n))

  pub row_word : (n : ℕ) (rest : List ℕ) (c m : ℕ) → c < n → m < k → get_or (rows f n ++ rest) (k * c + m) 0 ≡ get_or (f c) m 0
  unfolding rows
  row_word zero rest c m h l = absurd (omega arith)
  row_word (suc n) rest c m h l = rw append_assoc (last (eqb c n) refl (λ below. row_word n (f n ++ rest) c m below l))
    where
      last : (b : Bool) → eqb c n ≡ b → (c < n → get_or (rows f n ++ (f n ++ rest)) (k * c + m) 0 ≡ get_or (f c) m 0) → get_or (rows f n ++ (f n ++ rest)) (k * c + m) 0 ≡ get_or (f c) m 0
      last true e earlier =
          let same : c ≡ n = eqb-true c n e in
          let inside : m < length (f n) = rw (width n) l in
          rw (same, ← (rows_length n), get_or-append-add (rows f n) (f n ++ rest) m 0) (get_or-append (f n) rest 0 m inside)
      last false e earlier = let other : c ≡ n → ⊥ = eqb-false c n e in earlier (omega arith)

  pub row_at : (n : ℕ) (rest : List ℕ) (c : ℕ) → c < n → take k (drop (k * c) (rows f n ++ rest)) ≡ f c
  unfolding rows
  row_at zero rest c h = absurd (omega arith)
  row_at (suc n) rest c h = ap (λ (l : List ℕ). take k (drop (k * c) l)) (append_assoc (rows f n) (f n) rest) ∙ last (eqb c n) refl (λ below. row_at n (f n ++ rest) c below)
    where
      last : (b : Bool) → eqb c n ≡ b → (c < n → take k (drop (k * c) (rows f n ++ (f n ++ rest))) ≡ f c) → take k (drop (k * c) (rows f n ++ (f n ++ rest))) ≡ f c
      last true e earlier = let same : c ≡ n = eqb-true c n e in rw (same, drop_at (rows f n) (f n ++ rest) (k * n) (rows_length n)) (take_at (f n) rest k (width n))
      last false e earlier = let other : c ≡ n → ⊥ = eqb-false c n e in earlier (omega arith)

  -- one row replaced
  module _ (xs : List ℕ) (long : length xs ≡ k) where
    abbrev pub but : ℕ → ℕ → List ℕ
    but c j = pick (eqb c j) xs (f j)

    pub last_row : (n : ℕ) (rest : List ℕ) → k ≤ length rest → sets (rows f n ++ rest) (k * n) xs ≡ rows f n ++ (xs ++ drop k rest)
    last_row n rest h =
        let l : length (rows f n) ≡ k * n = rows_length n in
        let fit : k * n + length xs ≤ length (rows f n ++ rest) = rw (length-append, l, long) (omega arith) in
        sets-eq xs (rows f n ++ rest) (k * n) fit
        ∙ rw (take_at (rows f n) rest (k * n) l, long, ← (drop-drop k (k * n) (rows f n ++ rest)), drop_at (rows f n) rest (k * n) l) (append_assoc (rows f n) xs (drop k rest))

    pub row_set : (n : ℕ) (rest : List ℕ) (c : ℕ) → c < n → sets (rows f n ++ rest) (k * c) xs ≡ rows (but c) n ++ rest
    unfolding rows pick
    row_set zero rest c h = absurd (omega arith)
    row_set (suc n) rest c h =
        ap (λ (l : List ℕ). sets l (k * c) xs) (append_assoc (rows f n) (f n) rest) ∙ last (eqb c n) refl (λ below. row_set n (f n ++ rest) c below) ∙ sym (append_assoc (rows (but c) n) (but c n) rest)
      where
        last : (b : Bool) → eqb c n ≡ b → (c < n → sets (rows f n ++ (f n ++ rest)) (k * c) xs ≡ rows (but c) n ++ (f n ++ rest))
            → sets (rows f n ++ (f n ++ rest)) (k * c) xs ≡ rows (but c) n ++ (but c n ++ rest)
        last true e earlier =
            let same : c ≡ n = eqb-true c n e in
            let others : rows f n ≡ rows (but n) n = rows_same f (but n) n (λ j l. rw (ne_eqb n j (λ q. omega arith))) in
            let fit : k ≤ length (f n ++ rest) = rw (length-append, width n) (omega arith) in
            rw same (last_row n (f n ++ rest) fit ∙ rw (drop_at (f n) rest k (width n), others, eq-eqb n n refl))
        last false e earlier = let other : c ≡ n → ⊥ = eqb-false c n e in rw e (earlier (omega arith))
