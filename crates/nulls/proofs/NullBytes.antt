-- Whether a byte is 0 among some bytes, one byte at a time.
use mathlib.Core.Path.{◌≡◌, refl, sym, ap, ◌∙◌}
use mathlib.Core.Bool.{Bool, true, false, ◌||◌, or-false, or_assoc}
use mathlib.Core.List.{List, [], ◌∷◌, ◌++◌}
use Prim.Native.Nat.{ℕ, suc, ◌+◌, ◌-◌, ◌*◌, ◌/◌, ◌%◌, ◌≤◌, ◌<◌}
use native.Mathlib.Numerals.{add-one}
use native.Mathlib.Omega.{arith}
use lib.ListN.{length, take, drop, get_or, drop_of_length-le, take-append-drop, length-drop, length-append}
use lib.Seq.{take_all, drop-cons, drop-drop, drop-append-add, take-add}
use lib.Dec.{eqb}
use Rattle.sizes.specs.Basics.{among}

-- one was found, or stands from i on
abbrev pub NullFrom : List ℕ → ℕ → Bool → Type 0
NullFrom s i found = (found || among 0 (drop i s)) ≡ among 0 s

module _ (s : List ℕ) (i : ℕ) (found : Bool) where
  pub null_more : i < length s → NullFrom s i found → NullFrom s (i + 1) (found || eqb 0 (get_or s i 0))
  unfolding among
  null_more h e = rw add-one (or_assoc found (eqb 0 (get_or s i 0)) (among 0 (drop (suc i) s)) ∙ rw (drop-cons s i 0 h) at e)

  pub null_end : length s ≤ i → NullFrom s i found → found ≡ among 0 s
  unfolding among
  null_end h e = simp or-false at (rw (drop_of_length-le s {i = i} h) at e)

pub none_in_empty : (s : List ℕ) → length s ≡ 0 → false ≡ among 0 s
unfolding among
none_in_empty [] e = refl
none_in_empty (b ∷ bs) e = absurd (omega arith)

-- ---- parts

among_append : (xs ys : List ℕ) → among 0 (xs ++ ys) ≡ (among 0 xs || among 0 ys)
unfolding among
among_append [] ys = refl
among_append (x ∷ xs) ys = rw (among_append xs ys) (sym (or_assoc (eqb 0 x) (among 0 xs) (among 0 ys)))

among_split : (n : ℕ) (s : List ℕ) → (among 0 (take n s) || among 0 (drop n s)) ≡ among 0 s
among_split n s = sym (among_append (take n s) (drop n s)) ∙ ap (among 0) (take-append-drop n s)

pub half_le : (n : ℕ) → n / 2 ≤ n
half_le n = omega arith

-- the bytes from i on, as a slice of them has them
pub rest : (s : List ℕ) (i : ℕ) → take (length s - i) (drop i s) ≡ drop i s
rest s i = take_all (length s - i) (drop i s) (rw (length-drop i s) (omega arith))

pub among_rest : (s : List ℕ) (i : ℕ) → (among 0 (take i s) || among 0 (take (length s - i) (drop i s))) ≡ among 0 s
among_rest s i = rw (rest s i) (among_split i s)

-- ---- blocks

-- what whole blocks of 16 bytes leave
abbrev pub after_blocks : List ℕ → List ℕ
after_blocks s = drop (length s - length s % 16) s

-- one was found, or stands in what is left
abbrev pub NullLeft : List ℕ → List ℕ → Bool → Type 0
NullLeft s left found = (found || among 0 left) ≡ among 0 s

pub after_block : (b s : List ℕ) → length b ≡ 16 → after_blocks (b ++ s) ≡ after_blocks s
after_block b s h =
    let e : length (b ++ s) - length (b ++ s) % 16 ≡ length b + (length s - length s % 16) = rw (length-append b s) (omega arith) in
    rw (e, drop-append-add b s) refl

pub after_all : (s : List ℕ) → length s < 16 → after_blocks s ≡ s
after_all s h = let e : length s - length s % 16 ≡ 0 = omega arith in rw e refl

pub null_block : (s b left : List ℕ) (found : Bool) → NullLeft s (b ++ left) found → NullLeft s left (found || among 0 b)
null_block s b left found e = or_assoc found (among 0 b) (among 0 left) ∙ rw (among_append b left) at e

-- what stands in both parts counts once
both : (x m d : Bool) → ((x || m) || (m || d)) ≡ ((x || m) || d)
both true m d = refl
both false true d = refl
both false false d = refl

-- the first k bytes and the last k, where they meet or overlap
pub null_ends : (s : List ℕ) (k : ℕ) → k ≤ length s → length s ≤ 2 * k → (among 0 (take k s) || among 0 (take (length s - (length s - k)) (drop (length s - k) s))) ≡ among 0 s
null_ends s k l h =
    let a = length s - k in
    let j = k - a in
    let e : a + j ≡ k = omega arith in
    let front : among 0 (take k s) ≡ (among 0 (take a s) || among 0 (take j (drop a s))) =
    ap (λ n. among 0 (take n s)) (sym e) ∙ ap (among 0) (take-add a j s) ∙ among_append (take a s) (take j (drop a s)) in
    let back : among 0 (drop a s) ≡ (among 0 (take j (drop a s)) || among 0 (drop k s)) =
    sym (among_split j (drop a s)) ∙ rw (drop-drop j a s, e) refl in
    let split : ((among 0 (take a s) || among 0 (take j (drop a s))) || among 0 (drop k s)) ≡ among 0 s = rw (sym front) (among_split k s) in
    rw (rest s a, front, back) (both (among 0 (take a s)) (among 0 (take j (drop a s))) (among 0 (drop k s)) ∙ split)
