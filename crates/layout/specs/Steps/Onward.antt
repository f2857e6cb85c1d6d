-- Layouts that take a byte or more: where one of them was read, fewer bytes are left. So a loop over them ends by the bytes that are there.
use Rattle.std.specs.Prelude.{◌≡◌, refl, Bool, true, false, List, ℕ, suc, ◌+◌, ◌-◌, ◌<◌, length, take, drop, leb, ltb}
use Rattle.std.proofs.Common.{arith, length-drop, ltb-true}
use Rattle.layout.specs.Step.{Step}
use Rattle.std.specs.Prelude.{Ok, Err}
use Rattle.sizes.specs.Basics.{pick}
use Rattle.grammar.specs.Layout.{Order, Test, Layout, number, leading, nothing, passes, Tree, undigits}
use Rattle.grammar.specs.Laws.Layout.Read.{Got, got, no, bind, read_number, read_leading, lead, read, too_short}
use Rattle.grammar.specs.Laws.Layout.Places.{Within, w_got, w_no, within, took}
use Rattle.layout.specs.Reads.{forget, step, chain, ReadsTo}

-- a number of some bytes, and a run of bytes with what comes after it, take a byte or more; and so does what no bytes have
pub data Onward : Layout → Type 0 where
  by_number : {o : Order} {w : ℕ} {test : Test} {k : ℕ → Layout} → 0 < w → Onward (number o w test k)
  by_run : {b n : ℕ} {a : Layout} → Onward (leading b n a)
  by_none : Onward nothing

-- x was read from the place `at`, and ends after it
data Ends {A : Type 0} (at : ℕ) : Got A → Type 0 where
  e_got : {t : A} {r : List ℕ} {p : ℕ} → at < p → Ends at (got t r p)
  e_no : {n p : ℕ} → Ends at (no n p)

bind_ends : {A B : Type 0} {at : ℕ} (x : Got A) {k : A → List ℕ → ℕ → Got B} → ((t : A) (r : List ℕ) (p : ℕ) → x ≡ got t r p → Ends at (k t r p)) → Ends at (bind x k)
unfolding bind
bind_ends (got t r p) h = h t r p refl
bind_ends (no n p) h = e_no

pick_ends : {A : Type 0} {at : ℕ} (b : Bool) {x y : Got A} → (b ≡ true → Ends at x) → Ends at y → Ends at (pick b x y)
unfolding pick
pick_ends true h k = h refl
pick_ends false h k = k

later : {A : Type 0} {s : List ℕ} {at₀ at : ℕ} {x : Got A} → at₀ < at → Within s at x → Ends at₀ x
later h (w_got {p = p} q) = e_got {p = p} (omega (arith, q.place))
later h (w_no l m) = e_no

map_ends : {A B : Type 0} (g : A → B) {at : ℕ} {x : Got A} → Ends at x → Ends at (bind x (λ t r p. got (g t) r p))
unfolding bind
map_ends g (e_got {p = p} l) = e_got {p = p} l
map_ends g e_no = e_no

number_end : (o : Order) (w : ℕ) (s : List ℕ) (at : ℕ) {n : ℕ} {r : List ℕ} {p : ℕ} → read_number o w s at ≡ got n r p → p ≡ at + w
unfolding read_number pick
number_end o w s at {n} {r} {p} = go (leb w (length s))
  where
    go : (b : Bool) → pick b (got (undigits o (take w s)) (drop w s) (at + w)) (no too_short at) ≡ got n r p → p ≡ at + w
    go true e = cc
    go false e = let z : ◌≡◌ {A = ℕ} 0 1 = cc in absurd (omega arith)

ends : {g : Layout} → Onward g → (s : List ℕ) (at : ℕ) → Ends at (read g s at)
unfolding read read_leading
ends (by_number {o} {w} {test} {k} h) s at = bind_ends (read_number o w s at) (λ n r p e.
    pick_ends (passes test n) (λ _. map_ends (λ t. (n, t)) (later (omega (arith, number_end o w s at e)) (within (k n) r p))) e_no)
ends (by_run {b} {n} {a}) s at =
    bind_ends (read a (drop (lead b n s) s) (at + lead b n s)) (λ t r p e.
    pick_ends (ltb (at + lead b n s) p) (λ l. e_got {p = p} (omega (arith, ltb-true (at + lead b n s) p l))) e_no)
ends by_none s at = e_no

-- the bytes that are left at a step, and one more: none after a refusal
unfoldable pub room : List ℕ → Step → ℕ
room s (Ok at) = suc (length s - at)
room s (Err (r, p)) = 0

-- Less room: after a layout that takes a byte or more
pub less_room : {g : Layout} → Onward g → {s : List ℕ} {st r : Step} {at : ℕ} → st ≡ Ok at → ReadsTo g s st r → room s r < room s st
unfolding room chain step
less_room {g} o {s} {st} {r} {at} e h = rw (h.is, e) (go (ends o (drop at s) at) (within g (drop at s) at))
  where
    go : {x : Got (Tree g)} → Ends at x → Within (drop at s) at x → room s (forget x) < room s (Ok at)
    go (e_got {p = p} l) w = let q = took w in omega (arith, q.place, q.short, length-drop at s)
    go e_no w = omega arith
