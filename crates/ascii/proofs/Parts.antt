-- Runs of bytes under 128, of parts that are tested by the `or` of their bytes.
use Rattle.std.proofs.Common.{◌≡◌, ℕ, zero, suc, ◌+◌, ◌-◌, ◌≤◌, ◌<◌, List, [], ◌∷◌, length, get_or, take, drop, bit_or, fold, ap, ◌∙◌, arith, length-drop}
use Rattle.std.specs.Int.Bits.{or_add_and}
use Rattle.std.proofs.lemmas.Nat.{and_le_l, and_le_r}
use Rattle.std.proofs.Math.Seq.{drop-drop, get_or-take, get_or-drop, length-take-le}
use Rattle.convert.specs.Pages.{ascii}
use Rattle.ascii.specs.Runs.{Ascii, Run}
use Rattle.ascii.specs.Laws.{ascii_on, run_none, run_more}

-- the `or` of numbers is under 128 only if all are
fold_under : (xs : List ℕ) (a : ℕ) → fold bit_or a xs < ascii → (a < ascii) × ((j : ℕ) → j < length xs → get_or xs j 0 < ascii)
fold_under [] a h = (h, λ j l. absurd (omega arith))
fold_under (x ∷ xs) a h =
    let r = fold_under xs (bit_or a x) h in
    let s = or_add_and a x in
    (omega (arith, s, r.0, and_le_r a x), at (omega (arith, s, r.0, and_le_l a x)) r.1)
  where
    at : x < ascii → ((j : ℕ) → j < length xs → get_or xs j 0 < ascii) → (j : ℕ) → j < length (x ∷ xs) → get_or (x ∷ xs) j 0 < ascii
    at l f zero m = l
    at l f (suc j) m = f j (omega arith)

part_low : (u : List ℕ) (i n : ℕ) → i + n ≤ length u → fold bit_or 0 (take n (drop i u)) < ascii → Ascii u i n
part_low u i n h l =
    let f = fold_under (take n (drop i u)) 0 l in
    let z = length-take-le n (drop i u) (omega (arith, length-drop i u)) in
    record { under = λ j m. rw (get_or-take n (drop i u) j 0, get_or-drop i u j 0) at (f.1 j (omega arith)) }

-- a run up to where the rest of a text begins
pub record RunBefore (u : List ℕ) (start : ℕ) (rest : List ℕ) : Type 0 where
  pub short : length rest ≤ length u
  pub place : rest ≡ drop (length u - length rest) u
  pub run : Run u start (length u - length rest)

pub before_none : (u : List ℕ) (start : ℕ) → start ≤ length u → RunBefore u start (drop start u)
before_none u start h =
    let z : length u - length (drop start u) ≡ start = omega (arith, length-drop start u) in
    record { short = omega (arith, length-drop start u); place = rw z; run = rw z (run_none u start) }

pub before_more : {u : List ℕ} {start : ℕ} {rest : List ℕ} (n : ℕ) → n ≤ length rest → fold bit_or 0 (take n rest) < ascii → RunBefore u start rest → RunBefore u start (drop n rest)
before_more {u} {start} {rest} n h l t =
    let i = length u - length rest in
    let z : length u - length (drop n rest) ≡ i + n = omega (arith, length-drop n rest, t.short) in
    let e : drop n rest ≡ drop (i + n) u = ap (drop n) t.place ∙ drop-drop n i u in
    let s = part_low u i n (omega (arith, t.short)) (rw (← t.place) l) in
    record { short = omega (arith, length-drop n rest, t.short); place = rw z e; run = rw z (run_more t.run (omega (arith, t.short), s)) }

-- a run, and one from its end on
pub run_then : {u : List ℕ} {start i r : ℕ} → Run u start i → Run u i r → Run u start r
run_then {u} {start} {i} {r} s t =
    let z : i + (r - i) - start ≡ r - start = omega (arith, s.onward, t.onward) in
    record { onward = omega (arith, s.onward, t.onward); inside = λ h. t.inside (s.inside h); all = rw z at (ascii_on u start i (r - i) s.onward s.all t.all) }
