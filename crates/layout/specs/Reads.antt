-- What a reader function's contract says: `Reads g s st r`. A reader takes a position in s, or a refusal, and gives a position or a refusal.
-- Any position gets an answer: at one past the end no byte is left.
use Rattle.std.specs.Prelude.{◌≡◌, Bool, true, false, List, [], ℕ, ◌+◌, ◌-◌, ◌*◌, ◌/◌, min, length, take, drop, eqb, leb}
use Rattle.layout.specs.Step.{Step}
use Rattle.std.specs.Prelude.{Result, Ok, Err}
use Rattle.refusals.specs.declared.Refusal.{Refusal}
use Rattle.refusals.specs.Numbers.{by_number}
use Rattle.layout.specs.Step.{Span}
use Rattle.sizes.specs.Basics.{pick}
use Rattle.grammar.specs.Layout.{Order, little, big, Test, passes, Content, suits, Fill, exact, optional, open_ended, Layout}
use Rattle.grammar.specs.Laws.Layout.Read.{Got, got, no, refusal, read_number, read_counted, lead, read, zero_byte, ends_early, limit_passed}

-- a reading without its tree and without what is left
abbrev pub forget : {A : Type 0} → Got A → Step
forget (got t s at) = Ok at
forget (no r p) = Err (r, p)

-- reading g in s from a position
unfoldable pub step : Layout → List ℕ → ℕ → Step
step g s at = forget (read g (drop at s) at)

-- what comes after a position; a refusal stays
unfoldable pub chain : Step → (ℕ → Step) → Step
chain (Ok at) f = f at
chain (Err (r, p)) f = Err (r, p)

-- r is what reading g in s gives after st; the refusals by number
pub record ReadsTo (g : Layout) (s : List ℕ) (st r : Step) : Type 0 where
  pub is : r ≡ chain st (step g s)

-- the same of what code has
abbrev pub Reads : Layout → List ℕ → Result ℕ Refusal → Result ℕ Refusal → Type 0
Reads g s st r = ReadsTo g s (by_number st) (by_number r)

-- ---- what the parts of a reader give

-- the order that a flag of the code stands for
abbrev pub order : Bool → Order
order true = big
order false = little

abbrev pub number_of : Got ℕ → ℕ
number_of (got n s at) = n
number_of (no r p) = 0

-- the number of w bytes that comes next; 0 where there is none
unfoldable pub peek : Order → ℕ → List ℕ → Step → ℕ
peek o w s (Ok at) = number_of (read_number o w (drop at s) at)
peek o w s (Err (r, p)) = 0

-- the refusal that a number gets by a test; 0 for none
unfoldable pub verdict : Test → ℕ → ℕ
verdict test n = pick (passes test n) 0 (refusal test n)

-- past a field of w bytes, where c is its verdict
abbrev pub judged : ℕ → ℕ → Got ℕ → Step
judged c at (got n r p) = pick (eqb c 0) (Ok p) (Err (c, at))
judged c at (no r p) = Err (r, p)

unfoldable pub field : ℕ → ℕ → List ℕ → Step → Step
field w c s (Ok at) = judged c at (read_number little w (drop at s) at)
field w c s (Err (r, p)) = Err (r, p)

-- where the bytes lie that a count of w bytes announces
abbrev pub span_of : Got (List ℕ) → Span
span_of (got xs r p) = Ok (p, p + length xs)
span_of (no r p) = Err (r, p)

unfoldable pub part : Order → ℕ → List ℕ → Step → Span
part o w s (Ok at) = span_of (read_counted o w (drop at s) at)
part o w s (Err (r, p)) = Err (r, p)

-- the bytes of s that lie there; none where it does not lie inside s
unfoldable pub bytes : List ℕ → Span → List ℕ
bytes s (Ok (b, e)) = pick (leb b e) (pick (leb e (length s)) (take (e - b) (drop b s)) []) []
bytes s (Err (r, p)) = []

-- past a string's bytes, which lie there after a length of w bytes, if they are what is asked of them
unfoldable pub past : Content → ℕ → List ℕ → Span → Step
unfolding bytes
past c w s (Ok (b, e)) = pick (suits c (bytes s (Ok (b, e)))) (Ok e) (Err (zero_byte, b - w))
past c w s (Err (r, p)) = Err (r, p)

-- what a region gives, from b to e, once its content gave i, read as a part of its own from the part's position 0. A place in the part
-- is moved on by b (and would not be moved past e)
abbrev pub filled : ℕ → ℕ → Step → Step
filled b e (Ok p) = pick (eqb (min (b + p) e) e) (Ok e) (Err (ends_early, min (b + p) e))
filled b e (Err (r, p)) = Err (r, min (b + p) e)

unfoldable pub close : Fill → Span → Step → Step
close f (Err (r, p)) i = Err (r, p)
close exact (Ok (b, e)) i = filled b e i
close optional (Ok (b, e)) i = pick (eqb b e) (Ok e) (filled b e i)
close open_ended (Ok (b, e)) (Ok p) = Ok e
close open_ended (Ok (b, e)) (Err (r, p)) = Err (r, min (b + p) e)

-- past the run of bytes b that comes next, as far as n
unfoldable pub skip : ℕ → ℕ → List ℕ → Step → Step
skip b n s (Ok at) = Ok (at + lead b n (drop at s))
skip b n s (Err (r, p)) = Err (r, p)

-- what nothing has
abbrev pub refused : Step → Step
refused (Ok at) = Err (limit_passed, at)
refused (Err (r, p)) = Err (r, p)

-- how many of n rows of that many bytes fit
unfoldable pub fitting : ℕ → ℕ → List ℕ → Step → ℕ
fitting size n s (Ok at) = pick (eqb size 0) n (min n ((length s - at) / size))
fitting size n s (Err (r, p)) = 0

-- past the rows that fit, of n rows of that many bytes
unfoldable pub rows : ℕ → ℕ → List ℕ → Step → Step
rows size n s (Ok at) = Ok (at + fitting size n s (Ok at) * size)
rows size n s (Err (r, p)) = Err (r, p)
