-- A writer of fields refuses exactly what can't be written (Unwritable.antt), by that number and at that place: for every layout.
use Rattle.std.specs.Prelude.{◌≡◌, ◌↔◌, true, List, [], ◌∷◌, ℕ, ◌+◌, ◌≤◌, length, eqb}
use Rattle.std.proofs.Common.{sym, ap, ◌∙◌, subst, arith, length-append}
use Rattle.std.proofs.lemmas.Bool.{false≢true}
use Rattle.std.proofs.Math.Option.{none, some}
use Rattle.std.proofs.lemmas.List.{length-replicate}
use Rattle.layout.specs.Step.{Step}
use Rattle.std.specs.Prelude.{Ok, Err}
use Rattle.sizes.specs.Basics.{pick}
use Rattle.grammar.specs.Layout.{Order, Test, passes, Content, Fill, exact, optional, open_ended, Layout, empty, number, string, ◌▸◌, times, leading, region, nothing, spell_all, spell_fill, spell, all_none, all_more}
use Rattle.grammar.specs.Laws.Layout as laws
use Rattle.layout.specs.Reads.{chain, verdict}
use Rattle.layout.specs.Steps.Numbers.{broken}
use Rattle.store.specs.Fields.{Text, FieldsIn, Fields, text_of, resolve_all, resolve_in, resolve, bytes_in, content_in}
use Rattle.store.specs.Put.{text_verdict, free_verdict, run_verdict}
use Rattle.store.specs.Check.{place_of, judged, check_all, check_in, check}
use Rattle.store.specs.Unwritable.{Writable, Unwritable, number_wrong, number_then, text_long, text_outside, text_wrong, first, second, here, later, run_long, run_then, content, optional_content, open_content, free_outside}
use Rattle.store.specs.Laws.Refusals.{same_refusal}
use Rattle.store.specs.Laws.Verdicts.{NumberCase, number_good, number_bad, number_case, TextCase, text_good, text_longer, text_out, text_bad, text_case, FreeCase, free_good, free_out, free_case, RunCase, run_good, run_longer, run_case, long_verdict, out_verdict, bad_verdict, free_verdict_lem, longer_run, good_run, not_outside}

-- ---- how many bytes fields have

number_bytes : (o : Order) (w : ℕ) (test : Test) (k : ℕ → Layout) (s : List ℕ) (f : Fields (number o w test k))
    → length (bytes_in (number o w test k) s f) ≡ w + length (bytes_in (k f.0) s f.1)
unfolding bytes_in spell resolve
number_bytes o w test k s f = rw (length-append, laws.digits_length)

text_bytes : (o : Order) (w : ℕ) (c : Content) (s : List ℕ) (f : Text) → length (bytes_in (string o w c) s f) ≡ w + length (text_of s f)
unfolding bytes_in spell resolve
text_bytes o w c s f = rw (length-append, laws.digits_length)

both_bytes : (a b : Layout) (s : List ℕ) (f : Fields (a ▸ b)) → length (bytes_in (a ▸ b) s f) ≡ length (bytes_in a s f.0) + length (bytes_in b s f.1)
unfolding bytes_in spell resolve
both_bytes a b s f = rw length-append

more_bytes : (n : ℕ) (a : Layout) (s : List ℕ) (f : Fields a) (fs : List (Fields a))
    → length (bytes_in (times n a) s (f ∷ fs)) ≡ length (bytes_in a s f) + length (bytes_in (times n a) s fs)
unfolding bytes_in spell spell_all resolve resolve_all
more_bytes n a s f fs = rw length-append

run_bytes : (b n : ℕ) (a : Layout) (s : List ℕ) (f : Fields (leading b n a)) → length (bytes_in (leading b n a) s f) ≡ f.0 + length (bytes_in a s f.1)
unfolding bytes_in spell resolve
run_bytes b n a s f = rw (length-append, length-replicate)

region_bytes : (o : Order) (m : Fill) (a : Layout) (s : List ℕ) (f : Fields (region o m a)) → length (bytes_in (region o m a) s f) ≡ 4 + length (content_in m a s f)
unfolding bytes_in content_in spell resolve
region_bytes o m a s f = rw (length-append, laws.digits_length)

open_bytes : (a : Layout) (s : List ℕ) (f : FieldsIn open_ended (Fields a)) → length (content_in open_ended a s f) ≡ length (bytes_in a s f.0) + length (text_of s f.1)
unfolding bytes_in content_in spell_fill resolve_in
open_bytes a s f = rw length-append

-- ---- what is answered of fields, front to back

-- what is answered: the place after them, where they can be written; or why they can't
data Answers (g : Layout) (s : List ℕ) (f : Fields g) (at : ℕ) : Step → Type 0 where
  can : (p : ℕ) → Writable g s f → p ≡ at + length (bytes_in g s f) → Answers g s f at (Ok p)
  can_not : {n p : ℕ} → Unwritable s g f at n p → Answers g s f at (Err (n, p))

text_answers : (o : Order) (w : ℕ) (c : Content) (s : List ℕ) (f : Text) (at : ℕ)
    → Answers (string o w c) s f at (judged (text_verdict w c s f) (w + length (text_of s f)) at)
unfolding judged pick
text_answers o w c s f at = go (text_case w c s f)
  where
    go : {v : ℕ} → TextCase w c s f v → Answers (string o w c) s f at (pick (eqb v 0) (Ok (at + (w + length (text_of s f)))) (Err (v, at)))
    go (text_good l i e) = can (at + (w + length (text_of s f))) (l, i, e) (rw (text_bytes o w c s f))
    go (text_longer l) = can_not (text_long l)
    go (text_out l i) = can_not (text_outside l i)
    go (text_bad l i e) = can_not (text_wrong l i e)

number_answers : (o : Order) (w : ℕ) (test : Test) (k : ℕ → Layout) (s : List ℕ) (f : Fields (number o w test k)) (at : ℕ)
    → Answers (k f.0) s f.1 (at + w) (check (k f.0) s f.1 (at + w))
    → Answers (number o w test k) s f at (chain (judged (verdict test f.0) w at) (check (k f.0) s f.1))
unfolding judged chain pick
number_answers o w test k s f at h = go (number_case test f.0)
  where
    next : passes test f.0 ≡ true → {c : Step} → Answers (k f.0) s f.1 (at + w) c → Answers (number o w test k) s f at c
    next e (can p v i) = can p (e, v) (omega (arith, number_bytes o w test k s f))
    next e (can_not u) = can_not (number_then e u)

    go : {c : ℕ} → NumberCase test f.0 c
        → Answers (number o w test k) s f at (chain (pick (eqb c 0) (Ok (at + w)) (Err (c, at))) (check (k f.0) s f.1))
    go (number_good e) = next e h
    go (number_bad e z) = rw z (can_not (number_wrong e))

both_answer : (a b : Layout) (s : List ℕ) (f : Fields (a ▸ b)) (at : ℕ) {c : Step} → Answers a s f.0 at c
    → ((q : ℕ) → Answers b s f.1 q (check b s f.1 q)) → Answers (a ▸ b) s f at (chain c (check b s f.1))
unfolding chain
both_answer a b s f at (can p v i) h = next v i (h p)
  where
    next : {p : ℕ} → Writable a s f.0 → p ≡ at + length (bytes_in a s f.0) → {c : Step} → Answers b s f.1 p c → Answers (a ▸ b) s f at c
    next v i (can q v' j) = can q (v, v') (omega (arith, both_bytes a b s f))
    next v i (can_not {n} {p = q} u) = can_not (second v (subst (λ (m : ℕ). Unwritable s b f.1 m n q) i u))
both_answer a b s f at (can_not u) h = can_not (first u)

all_answer : (n : ℕ) (a : Layout) (s : List ℕ) → ((f : Fields a) (at : ℕ) → Answers a s f at (check a s f at)) → (fs : List (Fields a)) (at : ℕ)
    → Answers (times n a) s fs at (check_all (check a s) fs at)
unfolding check_all chain bytes_in spell spell_all resolve resolve_all
all_answer n a s h [] at = can at all_none (omega arith)
all_answer n a s h (f ∷ fs) at = more (h f at) (all_answer n a s h fs)
  where
    next : {p : ℕ} → Writable a s f → p ≡ at + length (bytes_in a s f) → {c : Step} → Answers (times n a) s fs p c
        → Answers (times n a) s (f ∷ fs) at c
    next v i (can q v' j) = can q (all_more v v') (omega (arith, more_bytes n a s f fs))
    next v i (can_not {n = m} {p = q} u) = can_not (later v (subst (λ (k : ℕ). Unwritable s (times n a) fs k m q) i u))

    more : {c : Step} → Answers a s f at c → ((p : ℕ) → Answers (times n a) s fs p (check_all (check a s) fs p))
        → Answers (times n a) s (f ∷ fs) at (chain c (check_all (check a s) fs))
    more (can p v i) k = next v i (k p)
    more (can_not u) k = can_not (here u)

run_answers : (b n : ℕ) (a : Layout) (s : List ℕ) (f : Fields (leading b n a)) (at : ℕ)
    → Answers a s f.1 (at + f.0) (check a s f.1 (at + f.0))
    → Answers (leading b n a) s f at (chain (judged (run_verdict n f.0) f.0 at) (check a s f.1))
unfolding judged chain pick
run_answers b n a s f at h = go (run_case n f.0)
  where
    next : f.0 ≤ n → {c : Step} → Answers a s f.1 (at + f.0) c → Answers (leading b n a) s f at c
    next e (can p v i) = can p (e, v) (omega (arith, run_bytes b n a s f))
    next e (can_not u) = can_not (run_then e u)

    go : {c : ℕ} → RunCase n f.0 c → Answers (leading b n a) s f at (chain (pick (eqb c 0) (Ok (at + f.0)) (Err (c, at))) (check a s f.1))
    go (run_good e) = next e h
    go (run_longer l) = can_not (run_long l)

region_answers : (o : Order) (m : Fill) (a : Layout) (s : List ℕ) (f : Fields (region o m a)) (at : ℕ)
    → ((f : Fields a) (at : ℕ) → Answers a s f at (check a s f at)) → Answers (region o m a) s f at (check_in m (check a s) s f (at + 4))
unfolding check_in content_in spell_fill resolve_in bytes_in judged chain pick
region_answers o exact a s f at h = go (h f (at + 4))
  where
    go : {c : Step} → Answers a s f (at + 4) c → Answers (region o exact a) s f at c
    go (can p v i) = can p v (omega (arith, region_bytes o exact a s f))
    go (can_not u) = can_not (content u)
region_answers o optional a s none at h = can (at + 4) tt (omega (arith, region_bytes o optional a s none))
region_answers o optional a s (some f) at h = go (h f (at + 4))
  where
    go : {c : Step} → Answers a s f (at + 4) c → Answers (region o optional a) s (some f) at c
    go (can p v i) = can p v (omega (arith, region_bytes o optional a s (some f)))
    go (can_not u) = can_not (optional_content u)
region_answers o open_ended a s f at h = go (h f.0 (at + 4))
  where
    free : (p : ℕ) → Writable a s f.0 → p ≡ at + 4 + length (bytes_in a s f.0) → {c : ℕ} → FreeCase s f.1 c
        → Answers (region o open_ended a) s f at (judged c (length (text_of s f.1)) p)
    free p v i (free_good j) = can (p + length (text_of s f.1)) (v, j) (omega (arith, region_bytes o open_ended a s f, open_bytes a s f))
    free p v i (free_out j) = rw i (can_not (free_outside v j))

    go : {c : Step} → Answers a s f.0 (at + 4) c
        → Answers (region o open_ended a) s f at (chain c (judged (free_verdict s f.1) (length (text_of s f.1))))
    go (can p v i) = free p v i (free_case s f.1)
    go (can_not u) = can_not (open_content u)

answers : (g : Layout) (s : List ℕ) (f : Fields g) (at : ℕ) → Answers g s f at (check g s f at)
unfolding check bytes_in spell resolve
answers empty s f at = can at tt (omega arith)
answers (number o w test k) s f at = number_answers o w test k s f at (answers (k f.0) s f.1 (at + w))
answers (string o w c) s f at = text_answers o w c s f at
answers (a ▸ b) s f at = both_answer a b s f at (answers a s f.0 at) (answers b s f.1)
answers (times n a) s f at = all_answer n a s (answers a s) f at
answers (leading b n a) s f at = run_answers b n a s f at (answers a s f.1 (at + f.0))
answers (region o m a) s f at = region_answers o m a s f at (answers a s)
answers nothing s f at = absurd f

-- ---- and only so

-- what can be written has no refusal
pub not_both : {s : List ℕ} {g : Layout} {f : Fields g} {at n p : ℕ} → Unwritable s g f at n p → Writable g s f → ⊥
not_both (number_wrong e) v = false≢true (sym e ∙ v.0)
not_both (number_then e u) v = not_both u v.1
not_both (text_long h) v = omega (arith, v.0)
not_both {s} (text_outside {f = f} h l) v = not_outside s f v.1 l
not_both (text_wrong h i e) v = false≢true (sym e ∙ v.2)
not_both (first u) v = not_both u v.0
not_both (second v₀ u) v = not_both u v.1
not_both (here u) (all_more v vs) = not_both u v
not_both (later v₀ u) (all_more v vs) = not_both u vs
not_both (run_long h) v = omega (arith, v.0)
not_both (run_then h u) v = not_both u v.1
not_both (content u) v = not_both u v
not_both (optional_content u) v = not_both u v
not_both (open_content u) v = not_both u v.0
not_both {s} (free_outside {f = f} v₀ l) v = not_outside s f.1 v.1 l

-- a refusal stands at the first byte of what is written, or after it
pub refused_after : {s : List ℕ} {g : Layout} {f : Fields g} {at n p : ℕ} → Unwritable s g f at n p → at ≤ p
refused_after (number_wrong e) = omega arith
refused_after (number_then e u) = omega (arith, refused_after u)
refused_after (text_long h) = omega arith
refused_after (text_outside h l) = omega arith
refused_after (text_wrong h i e) = omega arith
refused_after (first u) = refused_after u
refused_after (second v₀ u) = omega (arith, refused_after u)
refused_after (here u) = refused_after u
refused_after (later v₀ u) = omega (arith, refused_after u)
refused_after (run_long h) = omega arith
refused_after (run_then h u) = omega (arith, refused_after u)
refused_after (content u) = omega (arith, refused_after u)
refused_after (optional_content u) = omega (arith, refused_after u)
refused_after (open_content u) = omega (arith, refused_after u)
refused_after (free_outside v₀ l) = omega arith

-- one answer for one case
writable_answer : {g : Layout} {s : List ℕ} {f : Fields g} {at : ℕ} {c : Step} → Answers g s f at c → Writable g s f → c ≡ Ok (at + length (bytes_in g s f))
writable_answer (can p v i) h = ap Ok i
writable_answer (can_not u) h = absurd (not_both u h)

refused : {s : List ℕ} {g : Layout} {f : Fields g} {at n p : ℕ} → Unwritable s g f at n p → check g s f at ≡ Err (n, p)
unfolding check check_all check_in judged chain pick verdict
refused (number_wrong {test = test} {f = f} e) = rw (e, broken test f.0 e)
refused (number_then e u) = rw (e, refused u)
refused {s} (text_long {w = w} {c = c} {f = f} h) = rw (long_verdict w c s f h)
refused {s} (text_outside {w = w} {c = c} {f = f} h l) = rw (out_verdict w c s f h l)
refused {s} (text_wrong {w = w} {c = c} {f = f} h i e) = rw (bad_verdict w c s f h i e)
refused (first u) = rw (refused u)
refused {s} (second {a} {f = f} {at = at} v u) = rw (writable_answer (answers a s f.0 at) v, refused u)
refused (here u) = rw (refused u)
refused {s} (later {a = a} {f = f} {at = at} v u) = rw (writable_answer (answers a s f at) v, refused u)
refused (run_long {n = n} {f = f} h) = rw (longer_run n f.0 h)
refused (run_then {n = n} {f = f} h u) = rw (good_run n f.0 h, refused u)
refused (content u) = refused u
refused (optional_content u) = refused u
refused (open_content u) = rw (refused u)
refused {s} (free_outside {a = a} {f = f} {at = at} v l) = rw (writable_answer (answers a s f.0 (at + 4)) v, free_verdict_lem s f.1 l)

-- Exactly: a writer goes on exactly past what can be written, by as many bytes as that has
pub writable_exactly : (g : Layout) (s : List ℕ) (f : Fields g) (at p : ℕ)
    → (check g s f at ≡ Ok p) ↔ (Writable g s f × (p ≡ at + length (bytes_in g s f)))
writable_exactly g s f at p = (λ e. go (answers g s f at) e, λ h. writable_answer (answers g s f at) h.0 ∙ ap Ok (sym h.1))
  where
    go : {c : Step} → Answers g s f at c → c ≡ Ok p → Writable g s f × (p ≡ at + length (bytes_in g s f))
    go (can q v i) e = let same : q ≡ p = cc in (v, sym same ∙ i)
    go (can_not u) e = absurd (let z : ◌≡◌ {A = ℕ} 0 1 = cc in omega arith)

-- and refuses exactly what can't be, by that number and at that place
pub unwritable_exactly : (g : Layout) (s : List ℕ) (f : Fields g) (at n p : ℕ) → (check g s f at ≡ Err (n, p)) ↔ Unwritable s g f at n p
unwritable_exactly g s f at n p = (λ e. go (answers g s f at) e, refused)
  where
    go : {c : Step} → Answers g s f at c → c ≡ Err (n, p) → Unwritable s g f at n p
    go (can q v i) e = absurd (let z : ◌≡◌ {A = ℕ} 0 1 = cc in omega arith)
    go (can_not {n = m} {p = q} u) e = let same : (m ≡ n) × (q ≡ p) = same_refusal e in rw (← same.0, ← same.1) u

-- Forward: neither is before the first byte
pub forward : (g : Layout) (s : List ℕ) (f : Fields g) (at : ℕ) → at ≤ place_of (check g s f at)
forward g s f at = go (answers g s f at)
  where
    go : {c : Step} → Answers g s f at c → at ≤ place_of c
    go (can p v i) = omega arith
    go (can_not u) = refused_after u
