-- Strings and regions: a count, and as many bytes.
use Rattle.std.specs.Prelude.{◌≡◌, refl, Bool, true, false, length, take, drop}
use Rattle.std.proofs.Math.Path.{ap}
use Rattle.std.proofs.Common.{sym, ◌∙◌, add-zero, add-sub_cancel, length-drop, drop-drop}
use Rattle.std.proofs.Math.Option.{some}
use mathlib.Core.List.{List, [], ◌∷◌}
use Prim.Native.Nat.{ℕ, zero, suc, ◌+◌, ◌≤◌, ◌<◌, min}
use Rattle.std.proofs.Math.Nat.{add-sub_cancel_left, sub_self}
use native.Mathlib.Omega.{arith}
use borrow.Author.Tests.{le-leb, eq-eqb, ne_eqb}
use Rattle.layout.specs.Step.{Step}
use Rattle.std.specs.Prelude.{Ok, Err}
use Rattle.layout.specs.Step.{Span}
use Rattle.sizes.specs.Basics.{pick}
use Rattle.grammar.specs.Layout.{Order, Content, suits, Fill, exact, optional, open_ended, Layout, string, region}
use Rattle.grammar.specs.Laws.Layout.Read.{Got, got, no, too_short, zero_byte, bind, ends, read_fill, read}
use Rattle.grammar.specs.Laws.Layout.Places.{took_length, Within, w_got, w_no, within, Announced, announced, too_few, counted_view, announced_length, shift, read_shifts}
use Rattle.layout.specs.Reads.{forget, step, chain, ReadsTo, span_of, part, bytes, past, filled, close}
use Rattle.layout.specs.Steps.Chain.{forget_map, forget_rest, forget_pick}

-- a reading from b is one from 0, moved on by b
shifted_by : (b : ℕ) (a : Layout) (c : List ℕ) → read a c b ≡ shift b (read a c 0)
shifted_by b a c = rw add-zero at (read_shifts b a c 0)

-- what fills a part c, from b to b + n, read from the part's position 0
module _ (b n : ℕ) where
  exact_fills : {A : Type 0} (c : List ℕ) → length c ≡ n → {x : Got A} → Within c 0 x → forget (ends (shift b x)) ≡ filled b (b + n) (forget x)
  unfolding ends shift pick
  exact_fills c long (w_got {r = []} {p = p} q) =
      let e : p ≡ n = omega (arith, took_length q) in
      let m : min (b + p) (b + n) ≡ b + n = omega arith in
      rw (m, eq-eqb (b + n) (b + n) refl) (ap Ok (omega arith))
  exact_fills c long (w_got {r = y ∷ ys} {p = p} q) =
      let h : p < n = omega (arith, took_length q) in
      let m : min (b + p) (b + n) ≡ b + p = omega arith in
      let ne : b + p ≡ b + n → ⊥ = omega arith in
      rw (m, ne_eqb (b + p) (b + n) ne)
  exact_fills c long (w_no {n = k} {p = p} l h) =
      let m : min (b + p) (b + n) ≡ b + p = omega arith in
      rw m

  open_fills : {A : Type 0} (c : List ℕ) → length c ≡ n → {x : Got A} → Within c 0 x
      → forget {A = A × List ℕ} (bind (shift b x) (λ t s₁ at₁. got (t, s₁) [] (at₁ + length s₁))) ≡ close open_ended (Ok (b, b + n)) (forget x)
  unfolding bind shift close
  open_fills c long (w_got {r = r} {p = p} q) = ap Ok (omega (arith, took_length q))
  open_fills c long (w_no {n = k} {p = p} l h) =
      let m : min (b + p) (b + n) ≡ b + p = omega arith in
      rw m

  fills : (f : Fill) (a : Layout) (c : List ℕ) → length c ≡ n → forget (read_fill f (read a) c b) ≡ close f (Ok (b, b + n)) (step a c 0)
  unfolding read_fill step close pick
  fills exact a c long = rw (shifted_by b a c) (exact_fills c long (within a c 0))
  fills optional a [] long = rw (eq-eqb b (b + n) (omega arith)) (ap Ok (omega arith))
  fills optional a (x ∷ xs) long =
      let ne : b ≡ b + n → ⊥ = omega arith in
      rw (ne_eqb b (b + n) ne, forget_map some (ends (read a (x ∷ xs) b)), shifted_by b a (x ∷ xs)) (exact_fills (x ∷ xs) long (within a (x ∷ xs) 0))
  fills open_ended a c long = rw (shifted_by b a c) (open_fills c long (within a c 0))

same : {A : Type 0} (b : Bool) (x : A) → pick b x x ≡ x
unfolding pick
same true x = refl
same false x = refl

-- the bytes of a part that is announced
bytes_at : (s : List ℕ) (at w n : ℕ) → w + n ≤ length (drop at s) → bytes s (Ok (at + w, at + w + n)) ≡ take n (drop w (drop at s))
unfolding bytes pick
bytes_at s at w zero h = simp (add-zero, sub_self, same)
bytes_at s at w (suc n) h =
    let l : at + w + suc n ≤ length s = omega (arith, length-drop at s) in
    simp (le-leb (at + w) (at + w + suc n) (omega arith), le-leb (at + w + suc n) (length s) l, add-sub_cancel_left)
    (ap (take (suc n)) (sym (drop-drop w at s)))

step_string : (o : Order) (w : ℕ) (c : Content) (s : List ℕ) (st : Step) → past c w s (part o w s st) ≡ chain st (step (string o w c) s)
unfolding step read bind part chain past
step_string o w c s (Ok at) = go (counted_view o w (drop at s) at)
  where
    go : {x : Got (List ℕ)} → Announced w (drop at s) at x
        → past c w s (span_of x) ≡ forget (bind x (λ content rest at₁. pick (suits c content) (got content rest (at₁ + length content)) (no zero_byte at)))
    go (announced n l) =
        rw (announced_length w n (drop at s) l, bytes_at s at w n l, add-sub_cancel)
        (forget_pick (suits c (take n (drop w (drop at s)))) _ _)
    go too_few = refl
step_string o w c s (Err (n, p)) = refl

pub string_of : {o : Order} {w : ℕ} {c : Content} {s : List ℕ} {st r : Step} {p : Span}
    → r ≡ past c w s p → p ≡ part o w s st → ReadsTo (string o w c) s st r
string_of {o} {w} {c} {s} {st} e f = record { is = e ∙ rw f (step_string o w c s st) }

close_not : (f : Fill) (r p : ℕ) (i : Step) → close f (Err (r, p)) i ≡ Err (r, p)
unfolding close
close_not f r p i = refl

step_region : (o : Order) (f : Fill) (a : Layout) (s : List ℕ) (at : ℕ)
    → close f (part o 4 s (Ok at)) (step a (bytes s (part o 4 s (Ok at))) 0) ≡ step (region o f a) s at
unfolding step read part
step_region o f a s at = go (counted_view o 4 (drop at s) at)
  where
    go : {x : Got (List ℕ)} → Announced 4 (drop at s) at x
        → close f (span_of x) (forget (read a (bytes s (span_of x)) 0))
        ≡ forget (bind x (λ content rest at₁. bind (read_fill f (read a) content at₁) (λ t s₂ at₂. got t rest at₂)))
    go (announced n l) =
        let c = take n (drop 4 (drop at s)) in
        let e : length c ≡ n = announced_length 4 n (drop at s) l in
        rw (e, bytes_at s at 4 n l, forget_rest (drop (4 + n) (drop at s)) (read_fill f (read a) c (at + 4)))
        (sym (fills (at + 4) n f a c e))
    go too_few = close_not f too_short at _

region_chain : (o : Order) (f : Fill) (a : Layout) (s : List ℕ) (st : Step)
    → close f (part o 4 s st) (step a (bytes s (part o 4 s st)) 0) ≡ chain st (step (region o f a) s)
unfolding chain part
region_chain o f a s (Ok at) = step_region o f a s at
region_chain o f a s (Err (r, p)) = close_not f r p _

-- a region, whose own bytes b are read from their position 0
pub region_of : {o : Order} {f : Fill} {a : Layout} {s b : List ℕ} {st q r : Step} {p : Span}
    → r ≡ close f p q → ReadsTo a b (Ok 0) q → b ≡ bytes s p → p ≡ part o 4 s st → ReadsTo (region o f a) s st r
unfolding chain
region_of {o} {f} {a} {s} {b} {st} e h g k = record { is = e ∙ rw (h.is, g, k) (region_chain o f a s st) }
