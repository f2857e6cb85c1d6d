-- Reading by the rule refuses exactly the bytes that Refused.antt says, with that number and at that place.
use Rattle.std.specs.Prelude.{◌≡◌, refl, ◌↔◌, List, [], ◌∷◌, ℕ, zero, suc, ◌+◌, ◌≤◌, ◌<◌, length, drop, leb}
use Rattle.std.proofs.Common.{ap, subst, zero-add, arith, length-append, leb-true, leb-false, le-leb}
use Rattle.std.proofs.lemmas.List.{length-replicate}
use Rattle.std.proofs.lemmas.Bool.{lt-leb}
use Rattle.sizes.specs.Sizes.{member_bytes}
use Rattle.sizes.specs.Basics.{pick}
use Rattle.grammar.specs.Layout.{Tree, spell, Bytes}
use Rattle.grammar.specs.Fails.{Spells, Runs}
use Rattle.grammar.specs.Rule.{Kept}
use Rattle.grammar.specs.Laws.Layout.Read.{Got, got, no, lead}
use Rattle.grammar.specs.Laws.Layout.Check.{check}
use Rattle.grammar.specs.Laws.Layout.{passes_exactly, run_there, run_is}
use Rattle.grammar.proofs.Laws.Layout.{breaks_exactly}
use Rattle.grammar.specs.Laws.Layout.IfNo.{IfNo, if_got, if_no, pick_no, of_no}
use Rattle.grammar.specs.Member.{Member}
use Rattle.grammar.specs.Refused.{member_rule, Refused, too_long, inside, left}
use Rattle.grammar.specs.Laws.Member.Checked.{ended, checked}

-- a list that is longer than n has a byte after n
more : (n : ℕ) (r : List ℕ) → n < length r → (b : ℕ) × (r' : List ℕ) × (drop n r ≡ b ∷ r')
more zero [] h = absurd (omega arith)
more zero (b ∷ r) h = (b, r, refl)
more (suc n) [] h = absurd (omega arith)
more (suc n) (b ∷ r) h = more n r (omega arith)

refused_at : (bs : List ℕ) → Bytes bs → IfNo (Refused bs) (checked bs)
unfolding checked ended
refused_at bs h = pick_no (leb (length bs) member_bytes) (λ e. go (leb-true (length bs) member_bytes e) (check member_rule bs 0) refl) (λ e. if_no (too_long (leb-false (length bs) member_bytes e)))
  where
    after_all : length bs ≤ member_bytes → (t : Tree Member) (r : List ℕ) (p : ℕ) → Spells Member bs t r → Kept member_rule t → p ≡ length (spell Member t)
        → (k : ℕ) → Runs 0x01 1 r k (drop k r) → k < length r → Refused bs 11 (p + k)
    after_all short t r p v c e k run l =
        let m = more k r l in
        rw e (left short v c (subst (λ (x : List ℕ). Runs 0x01 1 r k x) m.2 run))

    go : length bs ≤ member_bytes → (x : Got (Tree Member)) → check member_rule bs 0 ≡ x → IfNo (Refused bs) (ended x)
    go short (no n p) e = if_no (inside short ((breaks_exactly member_rule bs h 0 n p).0 e))
    go short (got t r p) e =
        let q = (passes_exactly member_rule bs h 0 t r p).0 e in
        let k = lead 0x01 1 r in
        pick_no (leb (length r) k) (λ _. if_got) (λ f.
        if_no (after_all short t r p q.0 q.1 (rw zero-add at q.2) k (run_there 0x01 1 r) (leb-false (length r) k f)))

refused_so : (bs : List ℕ) → Bytes bs → {n p : ℕ} → Refused bs n p → checked bs ≡ no n p
unfolding checked ended pick
refused_so bs h (too_long l) = rw (lt-leb (length bs) member_bytes l)
refused_so bs h (inside {n} {p} short f) = rw (le-leb (length bs) member_bytes short, (breaks_exactly member_rule bs h 0 n p).1 f)
refused_so bs h (left {t} {r} {k} {b} {r'} short v c run) =
    let l : k < length r = omega (arith, simp (length-append, length-replicate) at (ap length run.split)) in
    let e = (passes_exactly member_rule bs h 0 t r (0 + length (spell Member t))).1 (v, c, refl) in
    rw (le-leb (length bs) member_bytes short, e, run_is run, lt-leb (length r) k l, zero-add)

pub checked_exactly : (bs : List ℕ) → Bytes bs → (n p : ℕ) → (checked bs ≡ no n p) ↔ Refused bs n p
checked_exactly bs h n p = (λ e. of_no (subst (IfNo (Refused bs)) e (refused_at bs h)), refused_so bs h)

-- One: by one number, at one place
pub one_refusal : (bs : List ℕ) → Bytes bs → {n p n' p' : ℕ} → Refused bs n p → Refused bs n' p' → (n ≡ n') × (p ≡ p')
one_refusal bs h {n} {p} {n'} {p'} f f' =
    let e : checked bs ≡ no n p = refused_so bs h f in
    let e' : checked bs ≡ no n' p' = refused_so bs h f' in
    (cc, cc)
