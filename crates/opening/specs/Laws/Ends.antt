-- The end of a member: an optional 01, and nothing after it.
use Rattle.std.proofs.Math.Path.{◌≡◌, refl}
use Rattle.std.proofs.Common.{sym, ◌∙◌, arith, length-drop, leb-true, leb-false, le-leb}
use Rattle.std.specs.Prelude.{Bool, List, ℕ, ◌+◌, ◌-◌, length, drop, leb}
use Rattle.std.proofs.Math.Bool.{true, false}
use Rattle.std.proofs.lemmas.Bool.{lt-leb}
use Rattle.sizes.specs.Basics.{pick}
use Rattle.grammar.specs.Laws.Layout.Read.{Got, got, no, lead}
use Rattle.grammar.specs.Laws.Member.Checked.{ended}
use Rattle.layout.specs.Step.{Step}
use Rattle.std.specs.Prelude.{Ok, Err}
use Rattle.opening.specs.Laws.Refusals.{same_number, same_place}
use Rattle.layout.specs.Keeps.{Keeps, on, off, keeps_on, keeps_off}
use Rattle.layout.specs.Steps.Keeping.{kept_on}

-- the end, from a position: no byte is left but for an optional 01; or the refusal
unfoldable pub end_at : List ℕ → ℕ → Step
end_at s at = let k = lead 0x01 1 (drop at s) in pick (leb (length (drop at s)) k) (Ok at) (Err (11, at + k))

-- one byte more or none
end_test : (n q k : ℕ) → leb (n - q) k ≡ leb n (q + k)
end_test n q k = go (leb (n - q) k) refl
  where
    go : (b : Bool) → leb (n - q) k ≡ b → b ≡ leb n (q + k)
    go true t = sym (le-leb n (q + k) (omega (arith, leb-true (n - q) k t)))
    go false t = sym (lt-leb n (q + k) (omega (arith, leb-false (n - q) k t)))

pub end_is : (s : List ℕ) (at : ℕ) → let p = at + lead 0x01 1 (drop at s) in end_at s at ≡ pick (leb (length s) p) (Ok at) (Err (11, p))
unfolding end_at
end_is s at = rw (length-drop at s, end_test (length s) at (lead 0x01 1 (drop at s)))

module _ {A : Type 0} (s : List ℕ) (q : ℕ) (t : A) where
  abbrev lead_01 : ℕ
  lead_01 = lead 0x01 1 (drop q s)

  by_end : (b : Bool) → leb (length (drop q s)) lead_01 ≡ b → (st : Step) → st ≡ pick b (Ok q) (Err (11, q + lead_01))
      → ((p : ℕ) → st ≡ Ok p → ended (got t (drop q s) q) ≡ got t (drop q s) q) × ((n p : ℕ) → st ≡ Err (n, p) → ended (got t (drop q s) q) ≡ no n p)
  unfolding ended pick
  by_end true e st h = (λ p f. rw e, λ n p f. absurd (let z : ◌≡◌ {A = ℕ} 0 1 = cc in omega arith))
  by_end false e st h = (λ p f. absurd (let z : ◌≡◌ {A = ℕ} 0 1 = cc in omega arith), λ n p f. let r : ◌≡◌ {A = Step} (Err (11, q + lead_01)) (Err (n, p)) = cc in let a = same_number r in let c = same_place r in rw (e, a, c))

  pub ended_on : {p : ℕ} → end_at s q ≡ Ok p → ended (got t (drop q s) q) ≡ got t (drop q s) q
  unfolding end_at
  ended_on {p} = (by_end (leb (length (drop q s)) lead_01) refl (end_at s q) refl).0 p

  pub ended_off : {n p : ℕ} → end_at s q ≡ Err (n, p) → ended (got t (drop q s) q) ≡ no n p
  unfolding end_at
  ended_off {n} {p} = (by_end (leb (length (drop q s)) lead_01) refl (end_at s q) refl).1 n p

-- the end after a section
pub end_off : {A X : Type 0} {s : List ℕ} {Q : A → ℕ → X → Type 0} {y : Got A} {n p : ℕ} → Keeps s Q y (off n p) → Keeps s Q (ended y) (off n p)
unfolding ended
end_off keeps_off = keeps_off

pub end_there : {A X : Type 0} {s : List ℕ} {Q : A → ℕ → X → Type 0} {y : Got A} {q : ℕ} {x : X} → Keeps s Q y (on q x)
    → {st : Step} → st ≡ end_at s q → {p : ℕ} → st ≡ Ok p → Keeps s Q (ended y) (on q x)
end_there {s = s} {q = q} k₀ e f = let k = kept_on k₀ in rw (k.is, ended_on s q k.tree (sym e ∙ f)) (keeps_on refl k.keeps)

pub end_left : {A X : Type 0} {s : List ℕ} {Q : A → ℕ → X → Type 0} {y : Got A} {q : ℕ} {x : X} → Keeps s Q y (on q x)
    → {st : Step} → st ≡ end_at s q → {n p : ℕ} → st ≡ Err (n, p) → Keeps s Q (ended y) (off n p)
end_left {s = s} {q = q} k₀ e f = let k = kept_on k₀ in rw (k.is, ended_off s q k.tree (sym e ∙ f)) keeps_off
