-- The verdict of a field, case by case.
use Rattle.std.specs.Prelude.{◌≡◌, refl, Bool, true, false, List, ℕ, ◌+◌, ◌^◌, ◌≤◌, ◌<◌, length, drop, eqb, leb, ltb}
use Rattle.std.proofs.Common.{sym, ◌∙◌, arith, length-drop, length-take-le, leb-true, leb-false, ltb-true, ltb-false}
use Rattle.std.proofs.lemmas.Bool.{false≢true}
use Rattle.sizes.specs.Basics.{pick}
use Rattle.grammar.specs.Layout.{Test, passes, Content, suits}
use Rattle.grammar.specs.Numbers.{refusal, too_short, zero_byte, differs, limit_passed}
use Rattle.layout.specs.Reads.{verdict}
use Rattle.layout.specs.Steps.Numbers.{broken}
use Rattle.store.specs.Fields.{Text, lent, letters, bytes_of, text_of}
use Rattle.store.specs.Put.{content_verdict, text_verdict, free_verdict, run_verdict}
use Rattle.store.specs.Unwritable.{text_length, Inside, Outside}

-- a number
pub data NumberCase (test : Test) (n : ℕ) : ℕ → Type 0 where
  number_good : passes test n ≡ true → NumberCase test n 0
  number_bad : passes test n ≡ false → eqb (refusal test n) 0 ≡ false → NumberCase test n (refusal test n)

pub number_case : (test : Test) (n : ℕ) → NumberCase test n (verdict test n)
unfolding verdict pick
number_case test n = go (passes test n) refl
  where
    go : (b : Bool) → passes test n ≡ b → NumberCase test n (pick b 0 (refusal test n))
    go true e = number_good e
    go false e = number_bad e (broken test n e)

-- a string with a length of w bytes
pub data TextCase (w : ℕ) (c : Content) (s : List ℕ) (t : Text) : ℕ → Type 0 where
  text_good : text_length t < 256 ^ w → Inside s t → suits c (text_of s t) ≡ true → TextCase w c s t 0
  text_longer : 256 ^ w ≤ text_length t → TextCase w c s t limit_passed
  text_out : text_length t < 256 ^ w → Outside s t → TextCase w c s t too_short
  text_bad : text_length t < 256 ^ w → Inside s t → suits c (text_of s t) ≡ false → TextCase w c s t zero_byte

content_case : {w : ℕ} {c : Content} {s : List ℕ} {t : Text} → text_length t < 256 ^ w → Inside s t → TextCase w c s t (content_verdict c (text_of s t))
unfolding content_verdict pick
content_case {w} {c} {s} {t} l i = go (suits c (text_of s t)) refl
  where
    go : (b : Bool) → suits c (text_of s t) ≡ b → TextCase w c s t (pick b 0 zero_byte)
    go true e = text_good l i e
    go false e = text_bad l i e

pub text_case : (w : ℕ) (c : Content) (s : List ℕ) (t : Text) → TextCase w c s t (text_verdict w c s t)
unfolding text_verdict pick text_of
text_case w c s (lent n) = go (ltb n.length (256 ^ w)) refl (leb (n.place + n.length) (length s)) refl
  where
    go : (a : Bool) → ltb n.length (256 ^ w) ≡ a → (b : Bool) → leb (n.place + n.length) (length s) ≡ b
        → TextCase w c s (lent n) (pick a (pick b (content_verdict c (bytes_of s n)) too_short) limit_passed)
    go true i true j = content_case (ltb-true n.length (256 ^ w) i) (leb-true (n.place + n.length) (length s) j)
    go true i false j = text_out (ltb-true n.length (256 ^ w) i) (leb-false (n.place + n.length) (length s) j)
    go false i b j = text_longer (ltb-false n.length (256 ^ w) i)
text_case w c s (letters xs) = go (ltb (length xs) (256 ^ w)) refl
  where
    go : (a : Bool) → ltb (length xs) (256 ^ w) ≡ a → TextCase w c s (letters xs) (pick a (content_verdict c xs) limit_passed)
    go true i = content_case (ltb-true (length xs) (256 ^ w) i) tt
    go false i = text_longer (ltb-false (length xs) (256 ^ w) i)

-- free content
pub data FreeCase (s : List ℕ) (t : Text) : ℕ → Type 0 where
  free_good : Inside s t → FreeCase s t 0
  free_out : Outside s t → FreeCase s t too_short

pub free_case : (s : List ℕ) (t : Text) → FreeCase s t (free_verdict s t)
unfolding free_verdict pick
free_case s (lent n) = go (leb (n.place + n.length) (length s)) refl
  where
    go : (b : Bool) → leb (n.place + n.length) (length s) ≡ b → FreeCase s (lent n) (pick b 0 too_short)
    go true j = free_good (leb-true (n.place + n.length) (length s) j)
    go false j = free_out (leb-false (n.place + n.length) (length s) j)
free_case s (letters xs) = free_good tt

-- a run
pub data RunCase (n k : ℕ) : ℕ → Type 0 where
  run_good : k ≤ n → RunCase n k 0
  run_longer : n < k → RunCase n k differs

pub run_case : (n k : ℕ) → RunCase n k (run_verdict n k)
unfolding run_verdict pick
run_case n k = go (leb k n) refl
  where
    go : (b : Bool) → leb k n ≡ b → RunCase n k (pick b 0 differs)
    go true j = run_good (leb-true k n j)
    go false j = run_longer (leb-false k n j)

-- a text that lies inside has its length
pub inside_length : (s : List ℕ) (t : Text) → Inside s t → length (text_of s t) ≡ text_length t
unfolding text_of bytes_of
inside_length s (lent n) h = length-take-le n.length (drop n.place s) (omega (arith, length-drop n.place s))
inside_length s (letters xs) h = refl

-- and it does not lie outside
pub not_outside : (s : List ℕ) (t : Text) → Inside s t → Outside s t → ⊥
not_outside s (lent n) i o = omega arith
not_outside s (letters xs) i o = o

-- ---- which verdict a case has

pub long_verdict : (w : ℕ) (c : Content) (s : List ℕ) (t : Text) → 256 ^ w ≤ text_length t → text_verdict w c s t ≡ limit_passed
long_verdict w c s t h = go (text_case w c s t)
  where
    go : {v : ℕ} → TextCase w c s t v → v ≡ limit_passed
    go (text_good l i e) = absurd (omega arith)
    go (text_longer l) = refl
    go (text_out l i) = absurd (omega arith)
    go (text_bad l i e) = absurd (omega arith)

pub out_verdict : (w : ℕ) (c : Content) (s : List ℕ) (t : Text) → text_length t < 256 ^ w → Outside s t → text_verdict w c s t ≡ too_short
out_verdict w c s t h o = go (text_case w c s t)
  where
    go : {v : ℕ} → TextCase w c s t v → v ≡ too_short
    go (text_good l i e) = absurd (not_outside s t i o)
    go (text_longer l) = absurd (omega arith)
    go (text_out l i) = refl
    go (text_bad l i e) = absurd (not_outside s t i o)

pub bad_verdict : (w : ℕ) (c : Content) (s : List ℕ) (t : Text) → text_length t < 256 ^ w → Inside s t → suits c (text_of s t) ≡ false
    → text_verdict w c s t ≡ zero_byte
bad_verdict w c s t h i e = go (text_case w c s t)
  where
    go : {v : ℕ} → TextCase w c s t v → v ≡ zero_byte
    go (text_good l j q) = absurd (false≢true (sym e ∙ q))
    go (text_longer l) = absurd (omega arith)
    go (text_out l o) = absurd (not_outside s t i o)
    go (text_bad l j q) = refl

pub free_verdict_lem : (s : List ℕ) (t : Text) → Outside s t → free_verdict s t ≡ too_short
free_verdict_lem s t o = go (free_case s t)
  where
    go : {c : ℕ} → FreeCase s t c → c ≡ too_short
    go (free_good i) = absurd (not_outside s t i o)
    go (free_out i) = refl

pub longer_run : (n k : ℕ) → n < k → run_verdict n k ≡ differs
longer_run n k h = go (run_case n k)
  where
    go : {c : ℕ} → RunCase n k c → c ≡ differs
    go (run_good l) = absurd (omega arith)
    go (run_longer l) = refl

pub good_run : (n k : ℕ) → k ≤ n → run_verdict n k ≡ 0
good_run n k h = go (run_case n k)
  where
    go : {c : ℕ} → RunCase n k c → c ≡ 0
    go (run_good l) = refl
    go (run_longer l) = absurd (omega arith)
