-- Bytes that a derivation spells, and what `step` and `peek` give there.
use Rattle.std.specs.Prelude.{◌≡◌, refl, true, List, [], ◌++◌, ℕ, ◌+◌, ◌^◌, ◌≤◌, ◌<◌, length, drop, leb}
use Rattle.std.proofs.Common.{sym, ap, ◌∙◌, append-nil, append_assoc, arith, length-append, length-drop, take_at, le-leb}
use Rattle.layout.specs.Step.{Step}
use Rattle.std.specs.Prelude.{Ok, Err}
use Rattle.sizes.specs.Basics.{pick}
use Rattle.grammar.specs.Layout.{Order, little, Test, passes, digits, Layout, ◌▸◌, Tree, spell, size, Bytes, Valid}
use Rattle.grammar.specs.Conventions.{field}
use Rattle.grammar.specs.Rule.{Rule, numbered}
use Rattle.grammar.specs.Laws.Layout.Read.{Got, got, no, bind, read_number, read}
use Rattle.grammar.specs.Laws.Layout.Check.{check}
use Rattle.layout.specs.Reads.{forget, step, chain, peek, ReadsTo}
use Rattle.grammar.specs.Laws.Layout.{number_spelt, complete, sound, digits_length, passes_exactly}
use Rattle.grammar.specs.Laws.Layout.Spelt.{after}
use Rattle.layout.specs.Steps.Slices.{drop_bytes}
use Rattle.grammar.specs.Laws.Layout.Binds.{bind_assoc, bind_pick}

pub step_spelt : (g : Layout) (t : Tree g) → Valid g t → (s : List ℕ) (at : ℕ) (r : List ℕ) → drop at s ≡ spell g t ++ r → step g s at ≡ Ok (at + size g t)
unfolding step size
step_spelt g t v s at r e = rw (e, complete g t v r at)

pub peek_spelt : (o : Order) (w n : ℕ) → n < 256 ^ w → (s : List ℕ) (at : ℕ) (r : List ℕ) → drop at s ≡ digits o w n ++ r → peek o w s (Ok at) ≡ n
unfolding peek read_number pick
peek_spelt o w n h s at r e =
    let l : length (digits o w n) ≡ w = digits_length o w n in
    let fits : leb w (length (digits o w n ++ r)) ≡ true = le-leb w _ (simp length-append (omega arith)) in
    rw (e, fits, take_at (digits o w n) r w l) (number_spelt o w n h)

-- a number alone
pub field_spelt : (o : Order) (w : ℕ) (test : Test) (n : ℕ) → n < 256 ^ w → passes test n ≡ true → (s : List ℕ) (at : ℕ) (r : List ℕ)
    → drop at s ≡ digits o w n ++ r → (step (field o w test) s at ≡ Ok (at + w)) × (drop (at + w) s ≡ r)
unfolding spell size
field_spelt o w test n h p s at r e =
    let l : length (digits o w n) ≡ w = digits_length o w n in
    let x : drop at s ≡ (digits o w n ++ []) ++ r = rw append-nil e in
    let y : at + length (digits o w n ++ []) ≡ at + w = rw append-nil (ap (λ (m : ℕ). at + m) l) in
    (step_spelt (field o w test) (n, tt) (h, p, tt) s at r x ∙ ap Ok y, rw l at (after s at (digits o w n) r e))

-- what reading gives is valid, spells the bytes there, and ends where they end
pub record Found (g : Layout) (s : List ℕ) (at : ℕ) (t : Tree g) (r : List ℕ) (p : ℕ) : Type 0 where
  pub valid : Valid g t
  pub spelt : drop at s ≡ spell g t ++ r
  pub rest : r ≡ drop p s
  pub place : p ≡ at + size g t

pub found : (g : Layout) (s : List ℕ) → Bytes s → (at : ℕ) (t : Tree g) (r : List ℕ) (p : ℕ) → read g (drop at s) at ≡ got t r p → Found g s at t r p
unfolding size
found g s b at t r p e =
    let q = sound g (drop at s) (drop_bytes at b) at t r p e in
    record {
      valid = q.0;
      spelt = q.1;
      rest = sym (ap (λ (n : ℕ). drop n s) q.2 ∙ after s at (spell g t) r q.1);
      place = q.2;
    }

-- the same by a rule
pub found_by : {g : Layout} (u : Rule g) (s : List ℕ) → Bytes s → (at : ℕ) (t : Tree g) (r : List ℕ) (p : ℕ) → check u (drop at s) at ≡ got t r p → Found g s at t r p
unfolding size
found_by {g} u s b at t r p e =
    let q = (passes_exactly u (drop at s) (drop_bytes at b) at t r p).0 e in
    record {
      valid = q.0.valid;
      spelt = q.0.split;
      rest = sym (ap (λ (n : ℕ). drop n s) q.2 ∙ after s at (spell g t) r q.0.split);
      place = q.2;
    }

-- what is found ends inside the bytes, if it has one
pub ends_inside : {g : Layout} {s : List ℕ} {at : ℕ} {t : Tree g} {r : List ℕ} {p : ℕ} → Found g s at t r p → 0 < size g t → p ≤ length s
unfolding size
ends_inside {s = s} {at = at} f h = omega (arith, f.place, length-drop at s, simp length-append at (ap length f.spelt))

pub stays_inside : {g : Layout} {s : List ℕ} {at : ℕ} {t : Tree g} {r : List ℕ} {p : ℕ} → Found g s at t r p → at ≤ length s → p ≤ length s
unfolding size
stays_inside {s = s} {at = at} f h = omega (arith, f.place, length-drop at s, simp length-append at (ap length f.spelt))

-- the first part of what is found
pub found_first : {a c : Layout} {s : List ℕ} {at : ℕ} {t : Tree (a ▸ c)} {r : List ℕ} {p : ℕ} → Found (a ▸ c) s at t r p
    → Found a s at t.0 (spell c t.1 ++ r) (at + size a t.0)
unfolding spell size
found_first {a} {c} {s} {at} {t} {r} f =
    let e : drop at s ≡ spell a t.0 ++ (spell c t.1 ++ r) = rw append_assoc at f.spelt in
    record { valid = f.valid.0; spelt = e; rest = sym (after s at (spell a t.0) (spell c t.1 ++ r) e); place = refl }

-- ---- what a reader's answer says of the reading

pub record Read (g : Layout) (s : List ℕ) (at p : ℕ) : Type 0 where
  pub tree : Tree g
  pub is : read g (drop at s) at ≡ got tree (drop p s) p
  pub there : Found g s at tree (drop p s) p

-- at a position p, from a position
pub read_on : {g : Layout} {s : List ℕ} {at : ℕ} {st : Step} {p : ℕ} → Bytes s → ReadsTo g s (Ok at) st → st ≡ Ok p → Read g s at p
unfolding chain step
read_on {g} {s} {at} {st} {p} b e f = go (read g (drop at s) at) refl (sym e.is ∙ f)
  where
    go : (x : Got (Tree g)) → read g (drop at s) at ≡ x → forget x ≡ Ok p → Read g s at p
    go (got t r q) d h =
        let q_is : q ≡ p = cc in
        let there : Found g s at t r p = rw q_is at (found g s b at t r q d) in
        record { tree = t; is = d ∙ rw (q_is, there.rest); there = rw there.rest at there }
    go (no n q) d h = absurd (let z : ◌≡◌ {A = ℕ} 0 1 = cc in omega arith)

err_number : Step → ℕ
err_number (Ok at) = 0
err_number (Err (n, p)) = n

err_place : Step → ℕ
err_place (Ok at) = 0
err_place (Err (n, p)) = p

pub read_off : {g : Layout} {s : List ℕ} {at : ℕ} {st : Step} {n p : ℕ} → ReadsTo g s (Ok at) st → st ≡ Err (n, p) → read g (drop at s) at ≡ no n p
unfolding chain step err_number err_place
read_off {g} {s} {at} {st} {n} {p} e f = go (read g (drop at s) at) (sym e.is ∙ f)
  where
    go : (x : Got (Tree g)) → forget x ≡ Err (n, p) → x ≡ no n p
    go (got t r q) h = absurd (let z : ◌≡◌ {A = ℕ} 0 1 = cc in omega arith)
    go (no m q) h = let m_is : m ≡ n = ap (λ (r : Step). err_number r) h in let q_is : q ≡ p = ap (λ (r : Step). err_place r) h in rw (m_is, q_is)

-- the number that comes after what was read
pub peeked : {a : Layout} {w : ℕ} {test : Test} {s : List ℕ} {at : ℕ} {st : Step} {t : Tree (a ▸ field little w test)} {r : List ℕ} {p : ℕ}
    → ReadsTo a s (Ok at) st → Found (a ▸ field little w test) s at t r p → peek little w s st ≡ t.1.0
unfolding spell chain size
peeked {a} {w} {s = s} {at = at} {t = t} {r = r} e f =
    let n = t.1.0 in
    let h : drop at s ≡ spell a t.0 ++ (digits little w n ++ r) = rw (append-nil, append_assoc) at f.spelt in
    let st_is = e.is ∙ step_spelt a t.0 f.valid.0 s at (digits little w n ++ r) h in
    rw st_is (peek_spelt little w n f.valid.1.0 s (at + size a t.0) r (after s at (spell a t.0) (digits little w n ++ r) h))

-- what a number that was found says
pub record NumberAt (w : ℕ) (test : Test) (s : List ℕ) (at n p : ℕ) : Type 0 where
  pub peeked : peek little w s (Ok at) ≡ n
  pub place : p ≡ at + w
  pub small : n < 256 ^ w
  pub passed : passes test n ≡ true
  pub inside : 0 < w → p ≤ length s

pub number_at : (w : ℕ) (test : Test) (s : List ℕ) (at n : ℕ) (r : List ℕ) (p : ℕ) → Found (field little w test) s at (n, tt) r p → NumberAt w test s at n p
unfolding spell size
number_at w test s at n r p f =
    let e : drop at s ≡ digits little w n ++ r = rw append-nil at f.spelt in
    let l : length (digits little w n) ≡ w = digits_length little w n in
    let long = simp length-append at (ap length e) in
    let q : p ≡ at + w = simp (append-nil, digits_length) at f.place in
    record {
      peeked = peek_spelt little w n f.valid.0 s at r e;
      place = q;
      small = f.valid.0;
      passed = f.valid.1;
      inside = λ h. omega (arith, length-drop at s, long, q);
    }

-- a number that was read, where x was peeked at
pub record ReadNumber (w : ℕ) (test : Test) (s : List ℕ) (at p x : ℕ) : Type 0 where
  pub found : Read (field little w test) s at p
  pub is : found.tree.0 ≡ x
  pub says : NumberAt w test s at x p

pub read_number_lem : {w : ℕ} {test : Test} {s : List ℕ} {at : ℕ} {st : Step} {p x : ℕ} → Bytes s → ReadsTo (field little w test) s (Ok at) st → st ≡ Ok p
    → x ≡ peek little w s (Ok at) → ReadNumber w test s at p x
read_number_lem {w} {test} {s} {at} {p = p} b r e pk =
    let f = read_on b r e in
    let n = number_at w test s at f.tree.0 (drop p s) p f.there in
    let i = sym (pk ∙ n.peeked) in
    record { found = f; is = i; says = rw i at n }

-- a number by a rule: the number alone, and then what it asks for
pub number_check : (o : Order) (w : ℕ) (test : Test) (l : ℕ → Layout) (k : (n : ℕ) → Rule (l n)) (s : List ℕ) (at : ℕ)
    → check (numbered {o = o} {w = w} {test = test} {k = l} k) s at
    ≡ bind (read (field o w test) s at) (λ t s₁ at₁. bind (check (k t.0) s₁ at₁) (λ u s₂ at₂. got (t.0, u) s₂ at₂))
unfolding check read bind
number_check o w test l k s at = simp (bind_assoc, bind_pick)
