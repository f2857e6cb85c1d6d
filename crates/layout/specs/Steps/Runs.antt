-- A run of one byte before a layout that begins with a byte.
use Rattle.std.specs.Prelude.{◌≡◌, refl, Bool, true, false, List, ℕ, ◌+◌, ◌<◌, length, drop, leb, ltb}
use Rattle.std.proofs.Common.{◌∙◌, arith, drop-drop, ltb-true, lt-ltb}
use Rattle.std.proofs.lemmas.Bool.{false≢true}
use Rattle.layout.specs.Step.{Step}
use Rattle.std.specs.Prelude.{Ok, Err}
use Rattle.sizes.specs.Basics.{pick}
use Rattle.grammar.specs.Layout.{passes, Layout, empty, number, string, ◌▸◌, times, leading, region, nothing, Tree}
use Rattle.grammar.specs.Laws.Layout.Read.{Got, got, no, bind, read_number, lead, read_leading, read, differs}
use Rattle.grammar.specs.Laws.Layout.Places.{Within, w_got, w_no, within}
use Rattle.layout.specs.Reads.{forget, step, chain, ReadsTo, skip}

-- a number or a run comes first, so every tree of the layout spells at least one byte
unfoldable pub begins : Layout → Bool
begins empty = false
begins (number o w test k) = ltb 0 w
begins (string o w c) = false
begins (a ▸ b) = begins a
begins (times n a) = false
begins (leading b n a) = true
begins (region o f a) = false
begins nothing = true

-- what is read lies past `at`
data Moves {A : Type 0} (at : ℕ) : Got A → Type 0 where
  m_got : {t : A} {r : List ℕ} {p : ℕ} → at < p → Moves at (got t r p)
  m_no : {n p : ℕ} → Moves at (no n p)

bind_moves : {A B : Type 0} {at : ℕ} {x : Got A} {k : A → List ℕ → ℕ → Got B} → Moves at x
    → ((t : A) (r : List ℕ) (p : ℕ) → at < p → Moves at (k t r p)) → Moves at (bind x k)
unfolding bind
bind_moves (m_got {t} {r} {p} l) h = h t r p l
bind_moves m_no h = m_no

pick_moves : {A : Type 0} {at : ℕ} (b : Bool) {x y : Got A} → (b ≡ true → Moves at x) → Moves at y → Moves at (pick b x y)
unfolding pick
pick_moves true h k = h refl
pick_moves false h k = k

-- once past, past for ever
later : {A B : Type 0} (g : A → B) {at : ℕ} {r : List ℕ} {p : ℕ} {x : Got A} → at < p → Within r p x → Moves at (bind x (λ t s₁ at₁. got (g t) s₁ at₁))
unfolding bind
later g l (w_got {p = p} q) = m_got {p = p} (omega (arith, q.place))
later g l (w_no h m) = m_no

leading_moves : {A : Type 0} (b n : ℕ) (f : List ℕ → ℕ → Got A) (s : List ℕ) (at : ℕ) → Moves at (read_leading b n f s at)
unfolding read_leading
leading_moves {A} b n f s at = go (f (drop (lead b n s) s) (at + lead b n s))
  where
    go : (x : Got A) → Moves {A = ℕ × A} at (bind x (λ t s₁ at₁. pick (ltb (at + lead b n s) at₁) (got (lead b n s, t) s₁ at₁) (no differs (at + lead b n s))))
    go (got t r p) = pick_moves (ltb (at + lead b n s) p) (λ e. m_got {p = p} (omega (arith, ltb-true (at + lead b n s) p e))) m_no
    go (no r p) = m_no

moves : (g : Layout) → begins g ≡ true → (s : List ℕ) (at : ℕ) → Moves at (read g s at)
unfolding begins read read_number
moves empty h s at = absurd (false≢true h)
moves (number o w test k) h s at =
    bind_moves (pick_moves (leb w (length s)) (λ e. m_got {p = at + w} (omega (arith, ltb-true 0 w h))) m_no) (λ n r p l.
    pick_moves (passes test n) (λ e. later (λ t. (n, t)) l (within (k n) r p)) m_no)
moves (string o w c) h s at = absurd (false≢true h)
moves (a ▸ b) h s at = bind_moves (moves a h s at) (λ t r p l. later (λ u. (t, u)) l (within b r p))
moves (times n a) h s at = absurd (false≢true h)
moves (leading b n a) h s at = leading_moves b n (read a) s at
moves (region o f a) h s at = absurd (false≢true h)
moves nothing h s at = m_no

step_leading : (b n : ℕ) (a : Layout) → begins a ≡ true → (s : List ℕ) (at : ℕ)
    → step a s (at + lead b n (drop at s)) ≡ step (leading b n a) s at
unfolding step read read_leading
step_leading b n a h s at =
    rw drop-drop (go (moves a h (drop (at + lead b n (drop at s)) s) (at + lead b n (drop at s))))
  where
    go : {x : Got (Tree a)} → Moves (at + lead b n (drop at s)) x
        → forget x ≡ forget {A = ℕ × Tree a} (bind x (λ t s₁ at₁.
        pick (ltb (at + lead b n (drop at s)) at₁) (got (lead b n (drop at s), t) s₁ at₁) (no differs (at + lead b n (drop at s)))))
    go (m_got {p = p} l) = rw (lt-ltb (at + lead b n (drop at s)) p l)
    go m_no = refl

leading_chain : (b n : ℕ) (a : Layout) → begins a ≡ true → (s : List ℕ) (st : Step) → chain (skip b n s st) (step a s) ≡ chain st (step (leading b n a) s)
unfolding chain skip
leading_chain b n a h s (Ok at) = step_leading b n a h s at
leading_chain b n a h s (Err (r, p)) = refl

-- a run of bytes, and then a
pub leading_of : {b n : ℕ} {a : Layout} {s : List ℕ} {st q r : Step} → begins a ≡ true → ReadsTo a s q r → q ≡ skip b n s st → ReadsTo (leading b n a) s st r
leading_of {b} {n} {a} {s} {st} h e f = record { is = e.is ∙ rw f (leading_chain b n a h s st) }
