-- `read_look` refuses exactly the bytes that are refused (grammar's Look/Refused.antt), by that number and at that place.
use Rattle.std.specs.Prelude.{◌≡◌, refl, ◌↔◌, ◌⊎◌, Bool, true, false, ◌||◌, List, [], ◌∷◌, ℕ, ◌≤◌, length, eqb}
use Rattle.std.proofs.Common.{sym, ap, ◌∙◌, inl, inr, append-nil, zero-add, arith, length-append}
use Rattle.sizes.specs.Sizes.{longest_look}
use Rattle.sizes.specs.Basics.{among}
use Rattle.grammar.specs.Layout.{Tree, spell, Bytes, Derivation}
use Rattle.grammar.specs.Fails.{Spells, Fails}
use Rattle.grammar.specs.Laws.Layout.Read.{Got, got, no, read}
use Rattle.grammar.specs.Laws.Layout as laws
use Rattle.grammar.proofs.Laws.Layout as exactly
use Rattle.fields.specs.Laws.Failing.{spell_most, fails_within, field_numbers, fails_numbers}
use Rattle.look.specs.Read.{Answer}
use Rattle.std.specs.Prelude.{Ok, Err}
use Rattle.look.specs.Look.{TableLook}
use Rattle.look.specs.Answers.{refused, outcome, expected}
use Rattle.look.specs.Laws.Bounds.{bounded, most_bytes}
use Rattle.look.specs.Refused.{Refused, inside, left}

-- ---- what reading answers

refused_at : (bs : List ℕ) → Bytes bs → (n p : ℕ) → expected (read TableLook bs 0) ≡ refused n p → Refused bs n p
unfolding expected
refused_at bs h n p = go (read TableLook bs 0) refl
  where
    go : (x : Got (Tree TableLook)) → read TableLook bs 0 ≡ x → expected x ≡ refused n p → Refused bs n p
    go (no m q) i e = let a : m ≡ n = cc in let b : q ≡ p = cc in rw (← a, ← b) (inside ((exactly.fails_exactly TableLook bs h 0 m q).0 i))
    go (got t [] q) i e = absurd (let z : ◌≡◌ {A = ℕ} 0 1 = cc in omega arith)
    go (got t (b ∷ r) q) i e =
        let a : 11 ≡ n = cc in
        let c : q ≡ p = cc in
        let v = laws.sound TableLook bs h 0 t (b ∷ r) q i in
        let place : length (spell TableLook t) ≡ p = sym (zero-add (length (spell TableLook t))) ∙ sym v.2 ∙ c in
        rw (← a, ← place) (left record { valid = v.0; split = v.1 })

refused_so : (bs : List ℕ) → Bytes bs → {n p : ℕ} → Refused bs n p → expected (read TableLook bs 0) ≡ refused n p
unfolding expected
refused_so bs h (inside {n} {p} f) = rw ((exactly.fails_exactly TableLook bs h 0 n p).1 f)
refused_so bs h (left {t} {b} {r} v) = rw (v.split, laws.complete TableLook t v.valid (b ∷ r) 0, zero-add)

-- ---- of whatever answer meets `read_look`'s contract

-- Exactly: refused by n at p where the bytes are so refused, and nowhere else
pub refused_exactly : (bs : List ℕ) → Bytes bs → (a : Answer) → outcome a ≡ expected (read TableLook bs 0) → (n p : ℕ)
    → (a ≡ Err (n, p)) ↔ Refused bs n p
refused_exactly bs h a e n p = (λ i. refused_at bs h n p (sym e ∙ ap outcome i), λ f. go a (e ∙ refused_so bs h f))
  where
    go : (a : Answer) → outcome a ≡ refused n p → a ≡ Err (n, p)
    go (Err (m, q)) i = let a : m ≡ n = cc in let b : q ≡ p = cc in rw (a, b)
    go (Ok x) i = absurd (let z : ◌≡◌ {A = ℕ} 0 1 = cc in omega arith)

-- ---- of the bytes alone

-- Or else: bytes have a derivation or are refused, and never both
pub refused_or_derived : (bs : List ℕ) → Bytes bs → Derivation TableLook bs ⊎ ((n : ℕ) × (p : ℕ) × Refused bs n p)
refused_or_derived bs h = go (exactly.front_or_fails TableLook bs h 0)
  where
    ends : (t : Tree TableLook) (r : List ℕ) → Spells TableLook bs t r → Derivation TableLook bs ⊎ ((n : ℕ) × (p : ℕ) × Refused bs n p)
    ends t [] v = inl record { tree = t; valid = v.valid; spells = sym (v.split ∙ append-nil (spell TableLook t)) }
    ends t (b ∷ r) v = inr (11, length (spell TableLook t), left v)

    go : ((t : Tree TableLook) × (r : List ℕ) × Spells TableLook bs t r) ⊎ ((n : ℕ) × (p : ℕ) × Fails TableLook bs 0 n p)
        → Derivation TableLook bs ⊎ ((n : ℕ) × (p : ℕ) × Refused bs n p)
    go (inl v) = ends v.0 v.1 v.2
    go (inr f) = inr (f.0, f.1, inside f.2)

pub never_both : (bs : List ℕ) → Bytes bs → Derivation TableLook bs → (n p : ℕ) → Refused bs n p → ⊥
unfolding expected
never_both bs h d n p f =
    let e = sym (refused_so bs h f) ∙ ap expected (laws.derived TableLook bs d) in
    let z : ◌≡◌ {A = ℕ} 0 1 = cc in
    omega arith

-- Once: by one number, at one place
pub one_refusal : (bs : List ℕ) → Bytes bs → (n p n' p' : ℕ) → Refused bs n p → Refused bs n' p' → (n ≡ n') × (p ≡ p')
one_refusal bs h n p n' p' f f' = let e = sym (refused_so bs h f) ∙ refused_so bs h f' in (cc, cc)

-- Numbers: 2, 3, 4, 5, 7 and 14 of a field, and 11
pub numbers : {bs : List ℕ} {n p : ℕ} → Refused bs n p → among n (11 ∷ field_numbers) ≡ true
unfolding among
numbers (inside {n} f) = rw (fails_numbers f bounded) (or_true (eqb n 11))
  where
    or_true : (b : Bool) → b || true ≡ true
    or_true true = refl
    or_true false = refl
numbers (left v) = refl

-- Places: in the bytes, or right after the last; and no farther than the longest look reaches
pub place_inside : {bs : List ℕ} {n p : ℕ} → Refused bs n p → p ≤ length bs
place_inside (inside f) = rw zero-add at (exactly.place_inside f).1
place_inside {bs} (left {t} v) = omega (arith, simp length-append at (ap length v.split))

pub place_within : {bs : List ℕ} {n p : ℕ} → Refused bs n p → p ≤ longest_look
place_within (inside f) = rw most_bytes at (fails_within f bounded)
place_within (left {t} v) = rw most_bytes at (spell_most TableLook bounded t v.valid)
