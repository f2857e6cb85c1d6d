-- A reading is refused exactly where the bytes fail, with that number and that place.
use Rattle.std.specs.Prelude.{◌≡◌, refl, false, ℕ, zero, suc, ◌+◌, ◌^◌, ◌≤◌, ◌<◌, length, drop, replicate, leb, ltb}
use Rattle.std.proofs.Common.{ap, ◌∙◌, subst, arith, length-append, drop_at, leb-false, le-ltb, ne_eqb, eq-eqb}
use mathlib.Core.List.{List, [], ◌∷◌, ◌++◌, append_assoc}
use Rattle.std.proofs.lemmas.List.{length-replicate}
use Rattle.std.proofs.lemmas.Bool.{lt-leb}
use Rattle.sizes.specs.Basics.{pick}
use Rattle.grammar.specs.Layout.{Order, Fill, exact, optional, open_ended, Layout, Tree, digits, spell_all, spell, All, all_none, all_more, Valid}
use Rattle.grammar.specs.Numbers.{too_short, differs, ends_early}
use Rattle.grammar.specs.Fails.{Spells, Begins, Runs, Holds, Unfit, no_count, no_room, Looked, Closed, Fails, number_short, number_wrong, number_then, string_short, string_wrong, first, second, item, after_run, run_alone, region_short, content, bytes_left, too_deep}
use Rattle.grammar.specs.Laws.Layout.Read.{Got, got, no, bind, read_number, read_counted, read_times, lead, read_leading, read_fill, read}
use Rattle.grammar.specs.Laws.Layout.IfNo.{IfNo, if_got, if_no, Only, only, pick_no}
use Rattle.grammar.specs.Laws.Layout.Lead.{Run, run_lead}
use Rattle.grammar.specs.Laws.Layout.Digits.{length_digits}
use Rattle.grammar.specs.Laws.Layout.Complete.{number_complete, counted_complete, optional_more, complete}
use Rattle.grammar.specs.Laws.Layout.Sound.{Spelt}

-- ---- a refusal says what the bytes are

-- the same at another place
pub moved : {g : Layout} {s : List ℕ} {at at' n p : ℕ} → at ≡ at' → Fails g s at n p → Fails g s at' n p
moved {g} {s} {n = n} {p = p} e f = subst (λ (k : ℕ). Fails g s k n p) e f

pub number_no : (o : Order) (w : ℕ) (s : List ℕ) (at : ℕ) → IfNo (Only (length s < w) too_short at) (read_number o w s at)
unfolding read_number
number_no o w s at = pick_no (leb w (length s)) (λ e. if_got) (λ e. if_no (only (leb-false w (length s) e)))

pub begun : {o : Order} {w : ℕ} {s : List ℕ} {at n : ℕ} {r : List ℕ} {p : ℕ} → Spelt (digits o w) (λ n. n < 256 ^ w) s at n r p → Begins o w s n r
begun q = record { small = q.valid; split = q.split }

pub runs : {b n : ℕ} {s : List ℕ} {k : ℕ} → Run b n s k → Runs b n s k (drop k s)
runs run =
    record {
      short = run.short;
      split = run.split;
      stops = λ l xs e. run.other l (rw e (omega arith)) (rw e);
    }

-- ---- and where the bytes are so, it is refused

pub number_few : (o : Order) (w : ℕ) (s : List ℕ) (at : ℕ) → length s < w → read_number o w s at ≡ no too_short at
unfolding read_number
number_few o w s at l = rw (lt-leb w (length s) l)

pub begins_read : {o : Order} {w : ℕ} {s : List ℕ} {n : ℕ} {r : List ℕ} → Begins o w s n r → (at : ℕ) → read_number o w s at ≡ got n r (at + w)
begins_read {o} {w} {s} {n} {r} v at = rw (v.split, number_complete o w n v.small r at, length_digits)

unfit_read : {o : Order} {w : ℕ} {s : List ℕ} → Unfit o w s → (at : ℕ) → read_counted o w s at ≡ no too_short at
unfolding read_counted
unfit_read {o} {w} {s} (no_count l) at = rw (number_few o w s at l)
unfit_read {o} {w} {s} (no_room {n} {r} v l) at = rw (begins_read v at, lt-leb n (length r) l)

holds_read : {o : Order} {w : ℕ} {s xs : List ℕ} (v : Holds o w s xs) (at : ℕ) → read_counted o w s at ≡ got xs v.rest (at + w)
holds_read {o} {w} {s} {xs} v at = rw (v.split, counted_complete o w xs v.small v.rest at)

pub spells_read : {g : Layout} {s : List ℕ} {t : Tree g} {r : List ℕ} → Spells g s t r → (at : ℕ) → read g s at ≡ got t r (at + length (spell g t))
spells_read {g} {s} {t} {r} v at = rw v.split (complete g t v.valid r at)

-- ts, and then one that is refused
times_read : (a : Layout) {ts : List (Tree a)} → All (Valid a) ts → (n : ℕ) → length ts < n → (r : List ℕ) (at m p : ℕ)
    → read a r (at + length (spell_all (spell a) ts)) ≡ no m p → read_times (read a) n (spell_all (spell a) ts ++ r) at ≡ no m p
unfolding read_times spell_all
times_read a all_none zero l r at m p e = absurd (omega arith)
times_read a all_none (suc n) l r at m p e =
    let e' : read a r at ≡ no m p = ap (read a r) (omega arith) ∙ e in rw e'
times_read a (all_more {x} {xs} h hs) zero l r at m p e = absurd (omega arith)
times_read a (all_more {x} {xs} h hs) (suc n) l r at m p e =
    let q : at + length (spell a x) + length (spell_all (spell a) xs) ≡ at + length (spell a x ++ spell_all (spell a) xs) = rw length-append (omega arith) in
    let rest : read_times (read a) n (spell_all (spell a) xs ++ r) (at + length (spell a x)) ≡ no m p =
    times_read a hs n (omega arith) r (at + length (spell a x)) m p (ap (read a r) q ∙ e) in
    rw (append_assoc, complete a x h (spell_all (spell a) xs ++ r) at, rest)

lead_runs : (b n k : ℕ) (r : List ℕ) → k ≤ n → (k < n → (xs : List ℕ) → ¬ (r ≡ b ∷ xs)) → lead b n (replicate k b ++ r) ≡ k
unfolding lead
lead_runs b zero zero r l h = refl
lead_runs b (suc n) zero [] l h = refl
lead_runs b (suc n) zero (x ∷ xs) l h = rw (ne_eqb x b (λ e. h (omega arith) xs (ap (λ (y : ℕ). y ∷ xs) e)))
lead_runs b zero (suc k) r l h = absurd (omega arith)
lead_runs b (suc n) (suc k) r l h = rw (eq-eqb b b refl) (ap suc (lead_runs b n k r (omega arith) (λ m. h (omega arith))))

-- what a run comes to: the reader of what follows it is called at its end
run_read : {A : Type 0} {b n : ℕ} {s : List ℕ} {k : ℕ} {r : List ℕ} (f : List ℕ → ℕ → Got A) → Runs b n s k r → (at : ℕ)
    → read_leading b n f s at ≡ bind (f r (at + k)) (λ t s₁ at₁. pick (ltb (at + k) at₁) (got (k, t) s₁ at₁) (no differs (at + k)))
unfolding read_leading
run_read {b = b} {n} {s} {k} {r} f v at =
    rw (v.split, lead_runs b n k r v.short v.stops, drop_at (replicate k b) r k (length-replicate k b))

module _ {A : Type 0} (g : List ℕ → ℕ → Got A) (xs : List ℕ) (p : ℕ) where
  fill_bad : (f : Fill) → Looked f xs → (m q : ℕ) → g xs p ≡ no m q → read_fill f g xs p ≡ no m q
  unfolding read_fill
  fill_bad exact l m q e = rw e
  fill_bad optional l m q e = rw (optional_more g xs p l, e)
  fill_bad open_ended l m q e = rw e

  fill_left : (f : Fill) → Looked f xs → Closed f → (t : A) (b : ℕ) (bs : List ℕ) (q : ℕ) → g xs p ≡ got t (b ∷ bs) q → read_fill f g xs p ≡ no ends_early q
  unfolding read_fill
  fill_left exact l c t b bs q e = rw e
  fill_left optional l c t b bs q e = rw (optional_more g xs p l, e)
  fill_left open_ended l c t b bs q e = absurd c

pub refused : {g : Layout} {s : List ℕ} {at n p : ℕ} → Fails g s at n p → read g s at ≡ no n p
unfolding read
refused (number_short {o} {w} {test} {k} {s} {at} l) = rw (number_few o w s at l)
refused (number_wrong {at = at} v e) = rw (begins_read v at, e)
refused (number_then {at = at} v e f) = rw (begins_read v at, e, refused f)
refused (string_short {at = at} u) = rw (unfit_read u at)
refused (string_wrong {at = at} v e) = rw (holds_read v at, e)
refused (first f) = rw (refused f)
refused (second {at = at} v f) = rw (spells_read v at, refused f)
refused (item {n} {a} {s} {at} {ts} {r} {m} {p} v l f) = rw v.split (times_read a v.valid n l r at m p (refused f))
refused (after_run {a = a} {at = at} v f) = rw (run_read (read a) v at, refused f)
refused (run_alone {a = a} {at = at} {k = k} {t = t} v u e) =
    let still : ltb (at + k) (at + k + length (spell a t)) ≡ false = le-ltb (at + k) (at + k + length (spell a t)) (omega arith) in
    rw (run_read (read a) v at, spells_read u (at + k), still)
refused (region_short {at = at} u) = rw (unfit_read u at)
refused (content {f = f} {a = a} {at = at} {xs = xs} {m = m} {p = p} v l e) =
    rw (holds_read v at, fill_bad (read a) xs (at + 4) f l m p (refused e))
refused (bytes_left {f = f} {a = a} {at = at} {xs = xs} {t = t} {b = b} {bs = bs} v l c u) =
    rw (holds_read v at, fill_left (read a) xs (at + 4) f l c t b bs (at + 4 + length (spell a t)) (spells_read u (at + 4)))
refused too_deep = refl

-- how many bytes a run takes
pub run_there : (b n : ℕ) (s : List ℕ) → Runs b n s (lead b n s) (drop (lead b n s) s)
run_there b n s = runs (run_lead b n s)

pub run_is : {b n : ℕ} {s : List ℕ} {k : ℕ} {r : List ℕ} → Runs b n s k r → lead b n s ≡ k
run_is {b} {n} {s} {k} {r} v = ap (lead b n) v.split ∙ lead_runs b n k r v.short v.stops

-- ---- what follows

abbrev pub IsGot : {A : Type 0} → Got A → Type 0
IsGot (got t r p) = Unit {0}
IsGot (no n p) = ⊥
