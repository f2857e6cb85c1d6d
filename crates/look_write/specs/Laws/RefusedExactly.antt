-- Writing a look is refused exactly where Refused.antt says so, by that number and at that place.
use Rattle.std.specs.Prelude.{◌≡◌, ◌↔◌, ◌⊎◌, Bool, ◌||◌, List, ℕ, ◌≤◌, length, eqb}
use Rattle.std.proofs.Math.Path.{refl, sym}
use Rattle.std.proofs.Common.{ap, ◌∙◌, inl, inr}
use Rattle.std.proofs.Math.Bool.{true, false}
use Rattle.std.proofs.Math.Nat.{zero-add}
use native.Mathlib.Omega.{arith}
use Rattle.std.proofs.Math.Dec.{leb}
use borrow.Author.Tests.{eqb-true, leb-true, leb-false, le-leb, lt-leb}
use Rattle.sizes.specs.Sizes.{longest_look}
use Rattle.layout.specs.Step.{Step}
use Rattle.std.specs.Prelude.{Ok, Err}
use Rattle.sizes.specs.Basics.{among, pick}
use Rattle.grammar.specs.Layout.{passes}
use Rattle.layout.specs.Reads.{chain}
use Rattle.store.specs.Check.{check}
use Rattle.store.specs.Check.{place_of}
use Rattle.store.specs.Fields.{bytes_in}
use Rattle.store.specs.Unwritable.{Writable}
use Rattle.store.specs.Laws.Refusals.{same_refusal}
use Rattle.store.specs.Laws.Exactly.{writable_exactly, unwritable_exactly}
use Rattle.look.specs.declared.Look.{Look}
use Rattle.look.specs.Look.{TableLook02}
use Rattle.look.specs.Values as values
use Rattle.look.specs.Laws.Bounds.{look_most}
use Rattle.store.specs.Deliver.{ending}
use Rattle.look_write.specs.Writing.{file, writing, Fits}
use Rattle.look_write.specs.Refused.{Refused, field, too_short, Allowed}

module _ (x : Look) (s : List ℕ) (room : ℕ) where
  -- ---- what is answered

  data Answers : Step → Type 0 where
    can : (n : ℕ) → Allowed x s room → n ≡ length (file x s) → Answers (Ok n)
    can_not : {n p : ℕ} → Refused x s room n p → Answers (Err (n, p))

  -- once the fields can be written
  ends : (n : ℕ) → Writable TableLook02 s (values.fields x) → n ≡ length (file x s) → Answers (ending room n)
  unfolding ending pick
  ends n w i = go (leb n room) refl
    where
      go : (b : Bool) → leb n room ≡ b → Answers (pick b (Ok n) (Err (15, 0)))
      go true f = can n record { fields = w; fits = rw i at (leb-true n room f) } i
      go false f = can_not (too_short w (rw i at (leb-false n room f)))

  answers : Answers (writing x s room)
  unfolding writing chain bytes_in file
  answers = go (check TableLook02 s (values.fields x) 0) refl
    where
      go : (c : Step) → check TableLook02 s (values.fields x) 0 ≡ c → Answers (chain c (ending room))
      go (Ok n) e = let q = (writable_exactly TableLook02 s (values.fields x) 0 n).0 e in ends n q.0 (q.1 ∙ zero-add (length (file x s)))
      go (Err (n, p)) e = can_not (field ((unwritable_exactly TableLook02 s (values.fields x) 0 n p).0 e))

  -- what can be written passes the check
  checked : Writable TableLook02 s (values.fields x) → check TableLook02 s (values.fields x) 0 ≡ Ok (length (file x s))
  unfolding bytes_in file
  checked w = (writable_exactly TableLook02 s (values.fields x) 0 (length (file x s))).1 (w, sym (zero-add (length (file x s))))

  refused : {n p : ℕ} → Refused x s room n p → writing x s room ≡ Err (n, p)
  unfolding writing ending chain pick
  refused (field {n} {p} u) = rw ((unwritable_exactly TableLook02 s (values.fields x) 0 n p).1 u)
  refused (too_short w l) = rw (checked w, lt-leb (length (file x s)) room l)

  allowed : Allowed x s room → writing x s room ≡ Ok (length (file x s))
  unfolding writing ending chain pick
  allowed a = rw (checked a.fields, le-leb (length (file x s)) room a.fits)

  -- Exactly: refused by n at p where the look is so refused, and nowhere else
  pub refused_exactly : (n p : ℕ) → (writing x s room ≡ Err (n, p)) ↔ Refused x s room n p
  refused_exactly n p = (λ e. go answers e, refused)
    where
      go : {c : Step} → Answers c → c ≡ Err (n, p) → Refused x s room n p
      go (can m a i) e = absurd (let z : ◌≡◌ {A = ℕ} 0 1 = cc in omega arith)
      go (can_not {n = m} {p = q} u) e = let same : (m ≡ n) × (q ≡ p) = same_refusal e in rw (← same.0, ← same.1) u

  -- and otherwise written, with as many bytes as the file has
  pub written_exactly : (n : ℕ) → (writing x s room ≡ Ok n) ↔ (Allowed x s room × (n ≡ length (file x s)))
  written_exactly n = (λ e. go answers e, λ h. allowed h.0 ∙ ap Ok (sym h.1))
    where
      go : {c : Step} → Answers c → c ≡ Ok n → Allowed x s room × (n ≡ length (file x s))
      go (can m a i) e = let same : m ≡ n = cc in (a, sym same ∙ i)
      go (can_not u) e = absurd (let z : ◌≡◌ {A = ℕ} 0 1 = cc in omega arith)

  -- Or else: a look can be written or is refused, and never both
  pub allowed_or_refused : Allowed x s room ⊎ ((n : ℕ) × (p : ℕ) × Refused x s room n p)
  allowed_or_refused = go answers
    where
      go : {c : Step} → Answers c → Allowed x s room ⊎ ((n : ℕ) × (p : ℕ) × Refused x s room n p)
      go (can m a i) = inl a
      go (can_not {n = m} {p = q} u) = inr (m, q, u)

  pub never_both : Allowed x s room → (n p : ℕ) → Refused x s room n p → ⊥
  never_both a n p f =
      let e = sym (allowed a) ∙ refused f in
      let z : ◌≡◌ {A = ℕ} 0 1 = cc in
      omega arith

  -- Places: the place of a refusal, and the length, are no farther than the longest look reaches
  pub place_within : Fits x s → place_of (writing x s room) ≤ longest_look
  unfolding writing ending chain pick
  place_within fits = go (check TableLook02 s (values.fields x) 0) (look_most.is s (values.fields x) 0 fits.is)
    where
      end : (m : ℕ) (b : Bool) → m ≤ longest_look → place_of (pick b (Ok m) (Err (15, 0))) ≤ longest_look
      end m true h = h
      end m false h = omega arith

      go : (c : Step) → place_of c ≤ longest_look → place_of (chain c (ending room)) ≤ longest_look
      go (Ok m) h = end m (leb m room) h
      go (Err (n, p)) h = h

  -- Once: by one number, at one place
  pub one_refusal : (n p n' p' : ℕ) → Refused x s room n p → Refused x s room n' p' → (n ≡ n') × (p ≡ p')
  one_refusal n p n' p' f f' = same_refusal (sym (refused f) ∙ refused f')

-- what can be written is of version 02
pub version_written : (x : Look) (s : List ℕ) → Writable TableLook02 s (values.fields x) → x.version ≡ 2
unfolding passes among
version_written x s w = eqb-true x.version 2 (go (eqb x.version 2) w.1.0)
  where
    go : (b : Bool) → b || false ≡ true → b ≡ true
    go true h = refl
    go false h = h
