-- Reading bytes by a layout, from the front: the tree, what is left and its place; or a refusal's number and place, by document 01,
-- "Refusal numbers". `Laws.Layout` says what this has to do with the derivations of `Layout`.
use Rattle.std.proofs.Math.Option.{none, some}
use Rattle.std.specs.Prelude.{List, [], ◌∷◌, ℕ, zero, suc, ◌+◌, length, take, drop, eqb, leb, ltb}
use Rattle.sizes.specs.Basics.{pick}
use Rattle.grammar.specs.Layout.{Order, passes, suits, Fill, exact, optional, open_ended, Filled, Layout, empty, number, string, ◌▸◌, times, leading, region, nothing, Tree, undigits}
unfoldable pub use Rattle.grammar.specs.Numbers.{refusal, too_short, zero_byte, differs, ends_early, limit_passed}

pub data Got (A : Type 0) : Type 0 where
  -- a tree, the bytes left and their place
  got : A → List ℕ → ℕ → Got A
  -- a refusal's number and place
  no : ℕ → ℕ → Got A

-- ---- the parts of a reading

-- what comes after something was read; a refusal stays
unfoldable pub bind : {A B : Type 0} → Got A → (A → List ℕ → ℕ → Got B) → Got B
bind (got t s at) f = f t s at
bind (no r p) f = no r p

-- a number of w bytes, as one field
unfoldable pub read_number : Order → ℕ → List ℕ → ℕ → Got ℕ
unfolding pick undigits
read_number o w s at = pick (leb w (length s)) (got (undigits o (take w s)) (drop w s) (at + w)) (no too_short at)

-- a count of w bytes and as many bytes, as one field: these bytes, what is left after them, and the place of the first of them
unfoldable pub read_counted : Order → ℕ → List ℕ → ℕ → Got (List ℕ)
unfolding bind pick read_number
read_counted o w s at =
    bind (read_number o w s at) (λ n s₁ at₁. pick (leb n (length s₁)) (got (take n s₁) (drop n s₁) at₁) (no too_short at))

unfoldable pub read_times : {A : Type 0} → (List ℕ → ℕ → Got A) → ℕ → List ℕ → ℕ → Got (List A)
unfolding bind
read_times f zero s at = got [] s at
read_times f (suc n) s at = bind (f s at) (λ t s₁ at₁. bind (read_times f n s₁ at₁) (λ ts s₂ at₂. got (t ∷ ts) s₂ at₂))

-- how many bytes b stand in front, as far as n
unfoldable pub lead : ℕ → ℕ → List ℕ → ℕ
unfolding pick
lead b zero s = 0
lead b (suc n) [] = 0
lead b (suc n) (x ∷ xs) = pick (eqb x b) (suc (lead b n xs)) 0

unfoldable pub read_leading : {A : Type 0} → ℕ → ℕ → (List ℕ → ℕ → Got A) → List ℕ → ℕ → Got (ℕ × A)
unfolding bind pick lead
read_leading b n f s at =
    let k = lead b n s in
    bind (f (drop k s) (at + k)) (λ t s₁ at₁. pick (ltb (at + k) at₁) (got (k, t) s₁ at₁) (no differs (at + k)))

-- what was read is all there was
unfoldable pub ends : {A : Type 0} → Got A → Got A
ends (no r p) = no r p
ends (got t [] at) = got t [] at
ends (got t (b ∷ bs) at) = no ends_early at

-- optional content is there if the region has a byte
unfoldable pub read_fill : {A : Type 0} (f : Fill) → (List ℕ → ℕ → Got A) → List ℕ → ℕ → Got (Filled f A)
unfolding bind ends
read_fill exact r s at = ends (r s at)
read_fill optional r [] at = got none [] at
read_fill optional r (b ∷ bs) at = bind (ends (r (b ∷ bs) at)) (λ t s₁ at₁. got (some t) s₁ at₁)
read_fill open_ended r s at = bind (r s at) (λ t s₁ at₁. got (t, s₁) [] (at₁ + length s₁))

-- ---- reading

unfoldable pub read : (g : Layout) → List ℕ → ℕ → Got (Tree g)
unfolding bind pick suits read_number read_counted read_times read_leading read_fill
read empty s at = got tt s at
read (number o w test k) s at =
    bind (read_number o w s at)
    (λ n s₁ at₁. pick (passes test n) (bind (read (k n) s₁ at₁) (λ t s₂ at₂. got (n, t) s₂ at₂)) (no (refusal test n) at))
read (string o w c) s at =
    bind (read_counted o w s at) (λ content rest at₁. pick (suits c content) (got content rest (at₁ + length content)) (no zero_byte at))
read (a ▸ b) s at = bind (read a s at) (λ t s₁ at₁. bind (read b s₁ at₁) (λ u s₂ at₂. got (t, u) s₂ at₂))
read (times n a) s at = read_times (read a) n s at
read (leading b n a) s at = read_leading b n (read a) s at
read (region o f a) s at =
    bind (read_counted o 4 s at) (λ content rest at₁. bind (read_fill f (read a) content at₁) (λ t s₂ at₂. got t rest at₂))
read nothing s at = no limit_passed at
