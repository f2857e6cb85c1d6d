-- How many bytes the fields of a layout have at most.
use Rattle.std.specs.Prelude.{◌≡◌, List, ℕ, ◌+◌, ◌*◌, ◌-◌, ◌^◌, ◌≤◌, max, length, eqb}
use Rattle.std.proofs.Common.{suc-mul, arith}
use Rattle.layout.specs.Step.{Step}
use Rattle.std.specs.Prelude.{Ok, Err}
use Rattle.sizes.specs.Basics.{pick}
use Rattle.grammar.specs.Layout.{Order, Test, Content, any_bytes, Layout, empty, number, string, ◌▸◌, times, leading, region, nothing, All, all_none, all_more}
use Rattle.layout.specs.Reads.{chain, verdict}
use Rattle.store.specs.Fields.{Text, Fields, text_of}
use Rattle.store.specs.Check.{place_of, judged, check_all, check}
use Rattle.store.specs.Fit.{Fit}
use Rattle.store.specs.Laws.Verdicts.{NumberCase, number_good, number_bad, number_case, TextCase, text_good, text_longer, text_out, text_bad, text_case, inside_length}

-- fields of g that fit have at most m bytes
pub record AtMost (g : Layout) (m : ℕ) : Type 0 where
  pub is : (s : List ℕ) (f : Fields g) (at : ℕ) → Fit g s f → place_of (check g s f at) ≤ at + m

chain_most : (c : Step) (f : ℕ → Step) (at m n : ℕ) → place_of c ≤ at + m → ((p : ℕ) → place_of (f p) ≤ p + n) → place_of (chain c f) ≤ at + (m + n)
unfolding chain
chain_most (Ok p) f at m n h k = omega (arith, k p)
chain_most (Err (r, p)) f at m n h k = omega arith

empty_most : AtMost empty 0
unfolding check
empty_most = record { is = λ s f at h. omega arith }

number_most : {o : Order} {w : ℕ} {test : Test} {k : ℕ → Layout} {m : ℕ} → ((n : ℕ) → AtMost (k n) m) → AtMost (number o w test k) (w + m)
unfolding check judged pick
number_most {w = w} {test} {k} {m} h = record {
  is = λ s f at e. chain_most (judged (verdict test f.0) w at) (check (k f.0) s f.1) at w m (here at (number_case test f.0)) (λ p. (h f.0).is s f.1 p e.1);
}
  where
    here : (at : ℕ) {n c : ℕ} → NumberCase test n c → place_of (pick (eqb c 0) (Ok (at + w)) (Err (c, at))) ≤ at + w
    here at (number_good e) = omega arith
    here at (number_bad e z) = rw z (omega arith)

text_most : {o : Order} {w : ℕ} {c : Content} → AtMost (string o w c) (w + (256 ^ w - 1))
unfolding check judged pick
text_most {o} {w} {c} = record { is = λ s f at e. here s f at (text_case w c s f) }
  where
    here : (s : List ℕ) (f : Text) (at : ℕ) {v : ℕ} → TextCase w c s f v
        → place_of (pick (eqb v 0) (Ok (at + (w + length (text_of s f)))) (Err (v, at))) ≤ at + (w + (256 ^ w - 1))
    here s f at (text_bad l i e) = omega arith
    here s f at (text_good l i e) = omega (arith, inside_length s f i)
    here s f at (text_longer l) = omega arith
    here s f at (text_out l i) = omega arith

then_most : {a b : Layout} {m n : ℕ} → AtMost a m → AtMost b n → AtMost (a ▸ b) (m + n)
unfolding check
then_most {a} {b} {m} {n} x y = record { is = λ s f at e. chain_most (check a s f.0 at) (check b s f.1) at m n (x.is s f.0 at e.0) (λ p. y.is s f.1 p e.1) }

all_most : {a : Layout} {m : ℕ} → AtMost a m → (s : List ℕ) {fs : List (Fields a)} → All (Fit a s) fs → (at : ℕ)
    → place_of (check_all (check a s) fs at) ≤ at + length fs * m
unfolding check_all
all_most y s all_none at = omega arith
all_most {a} {m} y s (all_more {x = f} {xs = fs} h hs) at =
    rw suc-mul (omega (arith, chain_most (check a s f at) (check_all (check a s) fs) at m (length fs * m) (y.is s f at h) (all_most y s hs)))

times_most : {a : Layout} {n m : ℕ} → AtMost a m → AtMost (times n a) (n * m)
unfolding check
times_most {a} {n} {m} x = record { is = λ s f at e. rw (← e.0) (all_most x s e.1 at) }

weaker : {g : Layout} {m n : ℕ} → AtMost g m → m ≤ n → AtMost g n
weaker x h = record { is = λ s f at e. omega (arith, x.is s f at e) }

-- ---- layouts without runs and regions, whose strings may hold any bytes, and in which a number that is not 0, 1 or 2 asks for nothing
-- longer than these do

abbrev pub most : Layout → ℕ
most empty = 0
most (number o w test k) = w + max (most (k 0)) (max (most (k 1)) (most (k 2)))
most (string o w c) = w + (256 ^ w - 1)
most (a ▸ b) = most a + most b
most (times n a) = n * most a
most (leading b n a) = 0
most (region o m a) = 0
most nothing = 0

abbrev pub Bounded : Layout → Type 0
Bounded empty = Unit {0}
Bounded (number o w test k) = (n : ℕ) → (most (k n) ≤ max (most (k 0)) (max (most (k 1)) (most (k 2)))) × Bounded (k n)
Bounded (string o w c) = c ≡ any_bytes
Bounded (a ▸ b) = Bounded a × Bounded b
Bounded (times n a) = Bounded a
Bounded (leading b n a) = ⊥
Bounded (region o m a) = ⊥
Bounded nothing = ⊥

pub at_most : (g : Layout) → Bounded g → AtMost g (most g)
at_most empty h = empty_most
at_most (number o w test k) h = number_most (λ n. weaker (at_most (k n) (h n).1) (h n).0)
at_most (string o w c) h = text_most
at_most (a ▸ b) h = then_most (at_most a h.0) (at_most b h.1)
at_most (times n a) h = times_most (at_most a h)
at_most (leading _ _ _) h = elim h [ ]
at_most (region _ _ _) h = elim h [ ]
at_most nothing h = elim h [ ]
