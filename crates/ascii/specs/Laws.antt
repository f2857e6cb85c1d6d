-- A run goes on.
use Rattle.std.specs.Prelude.{◌≡◌, List, ℕ, ◌+◌, ◌-◌, ◌≤◌, ◌<◌, length, get_or}
use Rattle.std.proofs.Common.{⊎_elim, arith}
use Rattle.std.specs.Int.Bits.{bit_or, or_add_and}
use Rattle.std.proofs.lemmas.Nat.{and_le_l, and_le_r}
use Rattle.convert.specs.Pages.{ascii}
use Rattle.convert.proofs.Laws.Pages.{side}
use Rattle.ascii.specs.Runs.{Ascii, Run}

pub ascii_none : (u : List ℕ) (i : ℕ) → Ascii u i 0
ascii_none u i = record { under = λ j h. absurd (omega arith) }

pub ascii_one : (u : List ℕ) (i : ℕ) → get_or u i 0 < ascii → Ascii u i 1
ascii_one u i h = record { under = λ j l. let z : i + j ≡ i = omega arith in rw z h }

pub ascii_more : (u : List ℕ) (i n m : ℕ) → Ascii u i n → Ascii u (i + n) m → Ascii u i (n + m)
ascii_more u i n m a b = record {
  under = λ j h. ⊎_elim (λ (l : j < n). a.under j l) (λ (l : n ≤ j). let z : i + j ≡ i + n + (j - n) = omega arith in rw z (b.under (j - n) (omega arith))) (side j n);
}

-- a run from `start` to i goes on
pub ascii_on : (u : List ℕ) (start i n : ℕ) → start ≤ i → Ascii u start (i - start) → Ascii u i n → Ascii u start (i + n - start)
ascii_on u start i n h a b =
    let z : i + n - start ≡ i - start + n = omega arith in
    let y : start + (i - start) ≡ i = omega arith in
    rw z (ascii_more u start (i - start) n a (rw y b))

pub ascii_start : (u : List ℕ) (i : ℕ) → Ascii u i (i - i)
ascii_start u i = let z : i - i ≡ 0 = omega arith in rw z (ascii_none u i)

pub run_none : (u : List ℕ) (i : ℕ) → Run u i i
run_none u i = record { onward = omega arith; inside = λ h. h; all = ascii_start u i }

pub run_more : {u : List ℕ} {start i n : ℕ} → Run u start i → (i + n ≤ length u) × Ascii u i n → Run u start (i + n)
run_more {u} {start} {i} {n} t s =
    record { onward = omega (arith, t.onward); inside = λ _. s.0; all = ascii_on u start i n t.onward t.all s.1 }

-- the `or` of two numbers is under 128 only if both are: a run goes on by one byte
pub ascii_or : (u : List ℕ) (i n bits : ℕ) → (bits < ascii → Ascii u i n) → bit_or bits (get_or u (i + n) 0) < ascii → Ascii u i (n + 1)
ascii_or u i n bits a h =
    let b = get_or u (i + n) 0 in
    let s = or_add_and bits b in
    ascii_more u i n 1 (a (omega (arith, s, and_le_r bits b))) (ascii_one u (i + n) (omega (arith, s, and_le_l bits b)))
